-- What calls of a disk leave as it was, and disks on which an engine recovers pages (own).
use Rattle.std.specs.Prelude.{◌≡◌, ℕ, ◌+◌, ◌<◌, ◌≤◌, List, length, get_or, Result, Ok, Err}
use Rattle.crashdisk.specs.State.{byte, longest}
use Rattle.crashdisk.specs.Call.{DiskState, IsSoundDisk, of, Syncs, HasCalls}
use Rattle.crashdisk.specs.internal.Call.{InFile}
use Rattle.crashdisk.specs.declared.file.File.{File}
use Rattle.crashdisk.specs.declared.file.File.TheVariants.{Db}
use Rattle.crashdisk.specs.declared.error.DiskError.{DiskError}
use Rattle.crashdisk.specs.Keeps.{Still, HadRefusal}

-- ---- What stays.

-- calls that left the log alone
pub record KeepsLog (old new : DiskState) : Type 0 where
  pub sector : new.sector ≡ old.sector
  pub tears : new.tears ≡ old.tears
  pub log : new.log ≡ old.log
  pub kept : new.kept ≡ old.kept
  pub handed : new.handed ≡ old.handed
  pub refused : old.refused ≤ new.refused
  pub sound : IsSoundDisk new
  pub calls : HasCalls (InFile Db) old new

-- ---- What is told of a call.

-- a refusal of a call of the disk is answered by the error `device`
abbrev pub Told : {T E : Type 0} → (device : E) → Result T DiskError → Result T E → Type 0
Told device (Ok _) (Ok _) = Unit {0}
Told device (Ok _) (Err _) = ⊥
Told device (Err _) (Ok _) = ⊥
Told device (Err _) (Err e) = e ≡ device

-- a file is synced, and a refusal of that is told
abbrev pub SyncStep : {T E : Type 0} → (device : E) → File → Result T E → (old new : DiskState) → Type 0
SyncStep {T = T} device f result old new = (called : Result T DiskError) × Told device called result × Syncs f called old new

-- the bytes from a place of a file on were read
unfoldable pub PlaceAnswer : {T E : Type 0} → (device : E) → File → (at : ℕ) (out : List ℕ) → Result T E → (old new : DiskState) → Type 0
PlaceAnswer device f at out (Ok _) old new = Still old new × ((j : ℕ) → j < length out → get_or out j 0 ≡ byte (of f old) (at + j))
PlaceAnswer device f at out (Err e) old new = Still old new × (e ≡ device) × (at + length out ≤ longest → HadRefusal old new)
