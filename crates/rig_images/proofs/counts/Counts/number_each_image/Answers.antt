use Rattle.rig_images.proofs.NumberOfEachImage.{each_is_numbered}
use Rattle.rig_images.proofs.counts.Counts.number_each_image.Goals as goal

pub returns : goal.returns
returns c = each_is_numbered
