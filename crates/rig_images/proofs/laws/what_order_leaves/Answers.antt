use Rattle.rig_images.proofs.OrderedPlaysAsWhole.{ordered_is_whole}
use Rattle.rig_images.proofs.laws.what_order_leaves.Goals as goal

pub returns : goal.returns
returns c = ordered_is_whole
