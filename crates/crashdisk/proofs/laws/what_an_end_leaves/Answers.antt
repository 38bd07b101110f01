use Rattle.crashdisk.proofs.Between.{ends_each_image}
use Rattle.crashdisk.proofs.laws.what_an_end_leaves.Goals as goal

pub returns : goal.returns
returns c = ends_each_image
