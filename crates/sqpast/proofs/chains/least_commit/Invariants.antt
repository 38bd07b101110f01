use Rattle.std.proofs.Common.{◌≡◌, ℕ, List}
use Rattle.sqwal.specs.Header.{named_size}
use Rattle.sqwal.specs.Frames.{size_of, IsValidFrame, IsCommit}
use Rattle.sqwal.specs.Took.{TookWithin}
use Rattle.sqpast.proofs.known.FramesByPage.{IsLeastTo}
use Rattle.sqpast.proofs.chains.least_commit.Given as goal

abbrev pub invariant-loop-before : goal.invariant-loop-before
invariant-loop-before l = (most : ℕ) (w : List ℕ) → TookWithin most w l.scan → IsValidFrame (named_size w) w l.fn.front.frames → IsCommit (named_size w) w l.fn.front.frames
    → l.fn.front.size ≡ size_of (named_size w) w l.fn.front.frames → IsLeastTo (named_size w) w l.fn.front.frames l.before l.least
