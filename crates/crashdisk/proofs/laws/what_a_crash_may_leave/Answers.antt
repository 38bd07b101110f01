use Rattle.crashdisk.proofs.Facts.{images_crashed, images_cut, images_listed, images_spared, images_synced, images_written}
use Rattle.crashdisk.proofs.laws.what_a_crash_may_leave.Goals as goal

pub returns : goal.returns
returns c = record { image = images_listed; write = images_written; set_len = images_cut; sync = images_synced; other = images_spared; crash = images_crashed }
