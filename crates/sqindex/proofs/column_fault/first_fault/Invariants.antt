use Rattle.std.proofs.Common.{◌≡◌, ◌<◌, ℕ, drop, slice_get, Some, None}
use Rattle.sqlite_record.specs.Record.{decode}
use Rattle.sqlite_record.specs.Fields.{fields_left}
use Rattle.sqkeys.specs.declared.row_rules.ColumnRule.{ColumnRule}
use Rattle.sqindex.specs.RowsKept.{fault_of}
use Rattle.sqindex.proofs.column_fault.first_fault.Given as goal

abbrev pub invariant-rules : goal.invariant-rules
invariant-rules l = record {
  left : drop l.rule-index (decode l.row) ≡ fields_left l.fields;
  none : (j : ℕ) (rule : ColumnRule) → j < l.rule-index → slice_get l.rules j ≡ Some rule → fault_of rule (slice_get (decode l.row) j) ≡ None;
}
