use Rattle.std.proofs.Common.{◌≡◌, ◌<◌, ◌-◌, ℕ, get_or, cond, false}
use Rattle.sqrescue_c.proofs.commits.copy_known.Given as goal

abbrev pub invariant-loop-i : goal.invariant-loop-i
invariant-loop-i l = (k : ℕ) → k < l.i → get_or l.known k 0 ≡ cond (get_or l.by_frame (get_or l.ends k 0 - 1) false) 1 0
