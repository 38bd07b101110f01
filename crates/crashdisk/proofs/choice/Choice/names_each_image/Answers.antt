use Rattle.crashdisk.proofs.Facts.{each_image_is_named}
use Rattle.crashdisk.proofs.choice.Choice.names_each_image.Goals as goal

pub returns : goal.returns
returns c = each_image_is_named
