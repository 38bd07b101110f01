use Rattle.std.proofs.Common.{◌-◌, ◌+◌, ◌∙◌, ap, take}
use Rattle.sqlite_record.specs.Fields.{fields_left}
use Rattle.sqlite_value.specs.declared.keys.Order.{Order}
use Rattle.sqlite_value.specs.Keys.{prefix_cmp}
use Rattle.sqlite_value.specs.Value.{owned}
use Rattle.sqindex.proofs.FieldsLeft.{agree_next}
use Rattle.sqindex.proofs.keyed_rows.compare_prefix.Goals as goal

pub fields-preserved : goal.fields-preserved
fields-preserved c =
    let left = fields_left c.next-in-fields.new.self in
    let right = fields_left c.next.new.self in
    ap (λ (o : Order). prefix_cmp o left (take (c.args.columns - (c.fields.i + 1)) right)) c.later-order.ensures
    ∙ agree_next c.fields.order (owned c.in-Some-next.value) (owned c.in-Some.other) left right (fields_left c.fields.left) (fields_left c.fields.right) c.args.columns c.fields.i
    c.fields-test.true c.in-Some-next.ensures.steps c.in-Some.ensures.steps c.in-Equal.ensures
    ∙ c.fields.invariant
