use Rattle.std.proofs.Common.{subst}
use Rattle.sqtables.specs.declared.list.Object.{Object}
use Rattle.cli_show_salvage.specs.Scripts.{IsOtherWritten, nothing}
use Rattle.cli_show_salvage.proofs.ObjectsWritten.{others_more}
use Rattle.cli_show_salvage.proofs.tables.print_others.Goals as goal

pub loop-object-init : goal.loop-object-init
loop-object-init g c = nothing

pub loop-object-preserved : goal.loop-object-preserved
loop-object-preserved g c =
    let at = g.W.Write.contents c.loop-object.out in
    let after = g.W.Write.contents c.print_other.new.out in
    let o = c.object-item.result in
    others_more c.args.only_virtual c.args.encoding (g.W.Write.contents c.args.out.now) c.args.objects.now c.loop-object.object-index o at after c.loop-object-test.true c.loop-object.invariant
    (subst (λ (x : Object). IsOtherWritten c.args.only_virtual c.args.encoding x at after) c.object-item.is c.in-Ok.ensures.ok)
