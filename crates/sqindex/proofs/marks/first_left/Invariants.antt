use Rattle.std.proofs.Common.{◌≡◌, ◌<◌, ℕ, Bool, true, slice_get, Some}
use Rattle.sqindex.proofs.marks.first_left.Given as goal

abbrev pub invariant-marks : goal.invariant-marks
invariant-marks l = (j : ℕ) (m : Bool) → j < l.i → slice_get l.taken j ≡ Some m → m ≡ true
