use Rattle.std.proofs.Common.{ℕ, ◌<◌}
use Rattle.sqtables.specs.Texts.{IsAliasBy}
use Rattle.sqkeys.proofs.column.is_alias.Given as goal

abbrev pub invariant-loop-k : goal.invariant-loop-k
invariant-loop-k l = (k : ℕ) → k < l.k → IsAliasBy l.body k l.j → ⊥
