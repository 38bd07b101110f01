use Rattle.std.proofs.Common.{◌≡◌, ◌≢◌, ◌<◌, ℕ, drop}
use Rattle.sqlite_record.specs.Record.{decode}
use Rattle.sqlite_record.specs.Fields.{fields_left}
use Rattle.sqlite_value.specs.declared.value.Value.TheVariants.{Null}
use Rattle.sqlite_value.specs.Order.{column}
use Rattle.sqindex.proofs.fields.has_null.Given as goal

abbrev pub invariant-fields : goal.invariant-fields
invariant-fields l = record {
  left : drop l.i (decode l.entry) ≡ fields_left l.fields;
  none : (j : ℕ) → j < l.i → column (decode l.entry) j ≢ Null;
}
