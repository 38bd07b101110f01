use Rattle.std.proofs.Common.{◌≡◌, ◌<◌, ◌+◌, ℕ, slice_get, Some, ◌<ℤ◌}
use Rattle.sqindex.specs.declared.entries.Held.{Held}
use Rattle.sqindex.proofs.order.first_tie.Given as goal

abbrev pub invariant-pairs : goal.invariant-pairs
invariant-pairs l = (j : ℕ) (p q : Held) → j + 1 < l.i → slice_get l.list j ≡ Some p → slice_get l.list (j + 1) ≡ Some q → p.rowid <ℤ q.rowid
