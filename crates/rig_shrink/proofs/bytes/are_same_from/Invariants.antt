use Rattle.std.proofs.Common.{◌≡◌, ℕ, ◌<◌, ◌≤◌, get_or}
use Rattle.rig_shrink.proofs.bytes.are_same_from.Given as goal

abbrev pub invariant-loop-i : goal.invariant-loop-i
invariant-loop-i l = (j : ℕ) → l.fn.start ≤ j → j < l.i → get_or l.bytes j 0 ≡ get_or l.longer j 0
