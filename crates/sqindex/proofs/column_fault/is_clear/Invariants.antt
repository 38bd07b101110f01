use Rattle.std.proofs.Common.{◌≡◌, ◌≢◌, ◌<◌, ℕ, drop, slice_get, Some, None}
use Rattle.sqlite_record.specs.Record.{decode}
use Rattle.sqlite_record.specs.Fields.{fields_left}
use Rattle.sqkeys.specs.declared.row_rules.ColumnRule.{ColumnRule}
use Rattle.sqindex.proofs.column_fault.is_clear.Given as goal

abbrev pub invariant-rules : goal.invariant-rules
invariant-rules l = record {
  left : drop l.rule-index (decode l.row) ≡ fields_left l.fields;
  known : (j : ℕ) (rule : ColumnRule) → j < l.rule-index → slice_get l.rules j ≡ Some rule → slice_get (decode l.row) j ≡ None → rule.default ≢ None;
}
