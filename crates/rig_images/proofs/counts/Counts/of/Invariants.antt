use Rattle.rig_play.specs.Plays.{files_of}
use Rattle.rig_images.proofs.NumbersOfEpochImages.{IsSoFar}
use Rattle.rig_images.proofs.counts.Counts.of.Given as goal

abbrev pub invariant-loop-epoch : goal.invariant-loop-epoch
invariant-loop-epoch l = IsSoFar (files_of l.player) l.limit l.epoch-index l.counts
