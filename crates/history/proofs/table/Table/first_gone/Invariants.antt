use Rattle.std.proofs.Common.{ℕ, ◌<◌, ◌≤◌, get_or}
use Rattle.history.proofs.table.Table.first_gone.Given as goal

abbrev pub invariant-loop-before : goal.invariant-loop-before
invariant-loop-before l = (i : ℕ) → i < l.before → get_or l.fn.self.greatest.items i 0 ≤ l.fn.frame
