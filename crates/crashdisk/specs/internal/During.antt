-- What a call does to a disk, as far as that keeps its word (own).
use Rattle.crashdisk.specs.Call.{DiskState, IsSoundDisk}

-- from a sound disk
abbrev pub OnSound : ((old new : DiskState) → Type 0) → (old new : DiskState) → Type 0
OnSound P old new = IsSoundDisk old → P old new
