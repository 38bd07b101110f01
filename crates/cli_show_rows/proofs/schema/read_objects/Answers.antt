use Rattle.std.proofs.Common.{List, ◌+◌, subst, sym, take}
use Rattle.sqtables.specs.declared.list.Object.{Object}
use Rattle.cli_show_rows.specs.Schemas.{AreObjectsRead, IsObjectRead}
use Rattle.cli_show_rows.proofs.ObjectsRead.{objects_more}
use Rattle.cli_show_rows.proofs.schema.read_objects.Goals as goal

pub loop-object-preserved : goal.loop-object-preserved
loop-object-preserved c =
    let encoding = c.args.encoding in
    let stored = c.args.stored.now in
    let i = c.loop-object.object-index in
    let o = c.in_ok-read_object.field-0 in
    let at = subst (λ (x : Object). IsObjectRead encoding x o) c.object-item.is c.in_ok-read_object.ensures in
    subst (λ (os : List Object). AreObjectsRead encoding (take (i + 1) stored) os) (sym c.in_ok-push.ensures.items)
    (objects_more encoding stored i c.object-item.result c.loop-object.objects.items o c.loop-object-test.true c.loop-object.invariant at)
