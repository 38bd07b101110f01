-- The numbers of a disk's refusals (own).
use Rattle.std.specs.Prelude.{ℕ}
use Rattle.crashdisk.specs.declared.error.DiskError.{DiskError}
use Rattle.crashdisk.specs.declared.error.DiskError.TheVariants.{Stopped, Failed, TooLong, NoMemory}

abbrev pub number_of : DiskError → ℕ
number_of Stopped = 1
number_of Failed = 2
number_of TooLong = 3
number_of NoMemory = 4
