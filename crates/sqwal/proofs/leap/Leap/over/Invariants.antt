use Rattle.std.proofs.Common.{◌-◌}
use Rattle.sqwal.proofs.checksum.FibonacciDoubled.{IsReached}
use Rattle.sqwal.proofs.leap.Leap.over.Given as goal

abbrev pub invariant-loop-reached : goal.invariant-loop-reached
invariant-loop-reached l = IsReached l.words l.reached l.leap

abbrev pub decreases-loop-reached : goal.decreases-loop-reached
decreases-loop-reached l = l.words - l.reached
