use Rattle.std.proofs.Common.{◌≡◌, ℕ, List, [], ◌++◌, length, take}
use Rattle.sqwal.specs.Took.{TookFrames}
use Rattle.sqwal.proofs.feed.ScanWithNextFrame.{HasComeTo}
use Rattle.sqwal.proofs.scan.FrameList.take_whole.Given as goal

abbrev pub invariant-loop-rest : goal.invariant-loop-rest
invariant-loop-rest l = record {
  took : (b : List ℕ) → TookFrames l.header b [] l.fn.self.entries.items l.fn.self.progress → HasComeTo l.header (b ++ l.bytes) l.rest l.self.entries.items l.self.progress;
  limits : l.self.progress.limits ≡ l.fn.self.progress.limits;
  keeps : take (length l.fn.self.entries.items) l.self.entries.items ≡ l.fn.self.entries.items;
}

abbrev pub decreases-loop-rest : goal.decreases-loop-rest
decreases-loop-rest l = length l.rest
