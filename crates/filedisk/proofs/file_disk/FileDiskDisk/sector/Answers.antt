use Rattle.std.proofs.Common.{refl, lit≤}
use Rattle.filedisk.proofs.file_disk.FileDiskDisk.sector.Goals as goal

pub returns-clause-is_size : goal.returns-clause-is_size
returns-clause-is_size g c = (12, lit≤ tt, lit≤ tt, refl)
