use Rattle.std.proofs.Common.{◌≡◌, ◌≢◌, ◌<◌, ℕ, slice_get, Some, None}
use Rattle.sqkeys.specs.declared.row_rules.ColumnRule.{ColumnRule}
use Rattle.sqindex.proofs.column_fault.are_known.Given as goal

abbrev pub invariant-rules : goal.invariant-rules
invariant-rules l = (j : ℕ) (rule : ColumnRule) → j < l.rule-index → slice_get l.rules j ≡ Some rule → rule.default ≢ None
