use Rattle.std.proofs.Common.{◌≡◌, ℕ, length, slice_get, Some}
use Rattle.sqkeys.specs.declared.row_rules.ColumnRule.{ColumnRule}
use Rattle.sqkeys.specs.RowRules.{IsRuleOf}
use Rattle.sqkeys.proofs.row_rules.rules_in.Given as goal

abbrev pub invariant-loop-j : goal.invariant-loop-j
invariant-loop-j l = record {
  many : length l.rules.items ≡ l.j;
  each : (k : ℕ) (rule : ColumnRule) → slice_get l.rules.items k ≡ Some rule → IsRuleOf l.made k rule;
}
