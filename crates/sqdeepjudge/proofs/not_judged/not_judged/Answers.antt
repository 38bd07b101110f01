use Rattle.std.proofs.Common.{rules, ◌≡◌, ◌++◌}
use Rattle.std.specs.Prelude.{Some, map, slice_get}
use Rattle.sqschema.specs.Items.{seen}
use Rattle.sqdeepjudge.specs.NotJudged.{kind_of, parts_of}
use Rattle.sqdeepjudge.proofs.ListedByRow.{first_more}
use Rattle.sqdeepjudge.proofs.not_judged.not_judged.Goals as goal

pub objects-preserved : goal.objects-preserved
objects-preserved c =
    let schema = c.args.schema.now in
    let x = seen c.item_at-item.result.now in
    let at : slice_get (map seen schema.items.items) c.objects.row ≡ Some x = search rules in
    let is : c.add_parts.new.all.items ≡ c.objects.all.items ++ parts_of (kind_of x) schema.asides.items c.args.indexes.now c.args.tables.now c.objects.row c.in_ok-words.words =
    rw (c.kind_of.ensures, c.as_slice-asides.ensures.value) at c.in_ok-add_parts.ensures in
    first_more (map seen schema.items.items) schema.asides.items c.args.indexes.now c.args.tables.now c.objects.row c.objects.all.items c.add_parts.new.all.items x c.in_ok-words.words
    c.objects.invariant at c.in_ok-words.ensures is
