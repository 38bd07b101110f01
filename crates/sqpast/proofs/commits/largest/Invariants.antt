use Rattle.std.proofs.Common.{◌≤◌, ℕ, List}
use Rattle.sqwal.specs.Header.{named_size}
use Rattle.sqwal.specs.Frames.{size_of}
use Rattle.sqwal.specs.Took.{TookWithin}
use Rattle.sqpast.proofs.commits.largest.Given as goal

abbrev pub invariant-loop-before : goal.invariant-loop-before
invariant-loop-before l = (frames : ℕ) (w : List ℕ) → TookWithin frames w l.scan → (j : ℕ) → 1 ≤ j → j ≤ l.before → size_of (named_size w) w j ≤ l.most
