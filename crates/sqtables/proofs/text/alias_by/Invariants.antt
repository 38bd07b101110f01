use Rattle.std.proofs.Common.{ℕ, ◌<◌}
use Rattle.sqtables.specs.Texts.{IsAliasBy}
use Rattle.sqtables.proofs.text.alias_by.Given as goal

abbrev pub invariant-loop-i : goal.invariant-loop-i
invariant-loop-i l = (j : ℕ) → j < l.i → IsAliasBy l.body l.k j → ⊥
