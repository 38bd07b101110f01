use Rattle.std.proofs.Common.{◌<◌, ◌≤◌, ◌-◌, ℕ, false, get_or}
use Rattle.std.specs.Prelude.{IsTrue}
use Rattle.sqpast.proofs.commits.first_known.Given as goal

abbrev pub invariant-loop-before : goal.invariant-loop-before
invariant-loop-before l = (m : ℕ) → l.after < m → m ≤ l.before → ¬ IsTrue (get_or l.known (m - 1) false)
