use Rattle.std.proofs.Common.{ℕ, ◌<◌}
use Rattle.sqtables.specs.Texts.{IsAliasBy}
use Rattle.sqtables.proofs.text.alias_of.Given as goal

abbrev pub invariant-loop-k : goal.invariant-loop-k
invariant-loop-k l = (j : ℕ) → j < l.k → (i : ℕ) → IsAliasBy l.body j i → ⊥
