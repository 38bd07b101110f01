use Rattle.std.proofs.Common.{◌≡◌, take}
use Rattle.rig_play.specs.Ends.{sum_of}
use Rattle.rig_play.proofs.name.sum_of.Given as goal

abbrev pub invariant-loop-byte : goal.invariant-loop-byte
invariant-loop-byte l = l.sum ≡ sum_of (take l.byte-index l.bytes)
