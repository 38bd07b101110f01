use Rattle.std.proofs.Common.{◌∙◌, IsTrue, false, sym, below_more}
use Rattle.sqlite_record.specs.Record.{decode}
use Rattle.sqlite_record.specs.Fields.{fields_left}
use Rattle.sqlite_value.specs.Value.{owned}
use Rattle.sqindex.proofs.FieldsLeft.{front_of, rest_of, column_at}
use Rattle.sqindex.proofs.fields.has_null.Goals as goal

not_true : IsTrue false → ⊥
not_true h = cc

pub fields-preserved : goal.fields-preserved
fields-preserved c =
    let xs = decode c.args.entry.now in
    let v = owned c.in-Some.value in
    let left = c.fields.invariant.left ∙ c.in-Some.ensures.steps in
    record {
      left = rest_of xs c.fields.i v (fields_left c.next.new.self) left;
      none = below_more _ _ c.fields.invariant.none (λ null. not_true (c.if-is_null.ensures.1 (sym (column_at xs c.fields.i v (front_of xs c.fields.i v (fields_left c.next.new.self) left)) ∙ null)));
    }
