use Rattle.rig_images.proofs.NumbersOfEpochImages.{each_has_place}
use Rattle.rig_images.proofs.counts.Counts.number_each_epoch.Goals as goal

pub returns : goal.returns
returns c = each_has_place c.args.self.now.epochs.items
