use Rattle.std.proofs.Common.{◌≡◌, ℕ, drop, sym, subst, ◌∙◌, arith}
use Rattle.std.proofs.lemmas.Option.{slice_get_past}
use Rattle.sqlite_record.specs.Record.{decode}
use Rattle.sqlite_record.specs.Fields.{fields_left}
use Rattle.sqlite_value.specs.Value.{owned}
use Rattle.sqindex.proofs.FieldsLeft.{none_of, rest_of, field_at}
use Rattle.sqindex.proofs.fields.field.Goals as goal

pub returns-in_default : goal.returns-in_default
returns-in_default c =
    let none = none_of (decode c.args.record.now) c.fields.i (c.fields.invariant ∙ c.in_default.ensures.steps.0) in
    let less = c.fields-test.true in
    sym (slice_get_past (decode c.args.record.now) c.args.at (omega (arith, none, less)))

pub fields-preserved : goal.fields-preserved
fields-preserved c = rest_of (decode c.args.record.now) c.fields.i (owned c.in-Some.field-0) (fields_left c.next.new.self) (c.fields.invariant ∙ c.in-Some.ensures.steps)

pub returns : goal.returns
returns c =
    let a = c.fields-test.false in
    let b = c.fields.auto.i-end in
    let same : c.fields.i ≡ c.args.at = omega (arith, a, b) in
    field_at c.fields.fields c.next-2.new.self c.next-2.result (decode c.args.record.now) c.args.at
    (subst (λ (n : ℕ). drop n (decode c.args.record.now) ≡ fields_left c.fields.fields) same c.fields.invariant) c.next-2.ensures.steps
