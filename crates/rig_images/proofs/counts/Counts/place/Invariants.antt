use Rattle.std.proofs.Common.{◌≡◌, drop}
use Rattle.rig_images.specs.Images.{numbered}
use Rattle.rig_images.proofs.counts.Counts.place.Given as goal

abbrev pub invariant-loop-counts : goal.invariant-loop-counts
invariant-loop-counts l = numbered l.self.epochs.items l.n ≡ numbered (drop l.counts-index l.self.epochs.items) l.rest
