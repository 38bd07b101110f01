-- An engine before its first commit: what its opening left to be shown stays shown (own).
use Rattle.std.specs.Prelude.{◌≡◌, ℕ, ◌≤◌, false, List, length, Result, IsOk}
use Rattle.crashdisk.specs.Call.{DiskState, IsSoundDisk}
use Rattle.crashdisk.specs.Keeps.{IsLogDurable}
use Rattle.walcore.specs.Laws.{KeepsShown}
use Rattle.walcore.specs.declared.state.Core.{Core}
use Rattle.walcore.specs.declared.error.WalError.{WalError}

-- A core that knows no frame, over a log that is durable and has no more than a header.
pub record IsUncommitted (core : Core) (s : DiskState) : Type 0 where
  pub frames : core.frames ≡ 0
  pub mark : core.mark ≡ 0
  pub unsynced : core.unsynced ≡ false
  pub sound : IsSoundDisk s
  pub log : (w : List ℕ) × (length w ≤ 32) × IsLogDurable s w

-- what one call keeps of that: the one database that the disk shows alone, and, where it is done, that nothing was committed
pub record StaysUncommitted {T : Type 0} (result : Result T WalError) (core : Core) (old new : DiskState) : Type 0 where
  pub shown : KeepsShown old new
  pub uncommitted : IsOk result → IsUncommitted core new

-- before the first commit
abbrev pub KeepsUncommitted : {T : Type 0} → Result T WalError → (core core_new : Core) → (old new : DiskState) → Type 0
KeepsUncommitted result core core_new old new = IsUncommitted core old → StaysUncommitted result core_new old new
