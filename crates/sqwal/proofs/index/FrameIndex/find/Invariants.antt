use Rattle.std.proofs.Common.{◌+◌, ◌<◌, ◌^◌}
use Rattle.sqwal.proofs.find.SearchAlongChain.{IsOnWay}
use Rattle.sqwal.proofs.index.FrameIndex.find.Given as goal

abbrev pub invariant-loop-frame : goal.invariant-loop-frame
invariant-loop-frame l = record { way : IsOnWay l.self.pages l.page l.mark l.frame l.steps; fits : l.steps + l.frame < 2 ^ 32 }

abbrev pub decreases-loop-frame : goal.decreases-loop-frame
decreases-loop-frame l = l.frame
