-- The modelled disk (own).
use Rattle.std.specs.Prelude.{◌≡◌, ℕ, suc, Bool, true, false, length, Result, Ok, Err}
use Rattle.crashdisk.specs.State.{Value, FileState}
use Rattle.crashdisk.specs.Call.{DiskState}
use Rattle.crashdisk.specs.Held.{file_of, IsPicked, IsTurned, picked}
use Rattle.crashdisk.specs.Stop.{Judged, Settings, stops_call, stops_sync, fails_call, after_call, after_sync}
use Rattle.crashdisk.specs.Since.{kept_bytes, handed_writes}
use Rattle.crashdisk.specs.declared.held.Part.{Part}
use Rattle.crashdisk.specs.declared.model.ModelDisk.{ModelDisk}
use Rattle.crashdisk.specs.declared.error.DiskError.{DiskError}
use Rattle.crashdisk.specs.declared.error.DiskError.TheVariants.{Failed}

-- what is set of it
abbrev pub settings_of : ModelDisk → Settings
settings_of disk = record { scripted = true; stops = disk.stops; pick = disk.part.pick.items; new_len = disk.part.new_len }

-- what it lists
abbrev pub state_of : ModelDisk → DiskState
state_of disk = record { sector = disk.sector; tears = disk.tears; db = file_of disk.sector disk.db; log = file_of disk.sector disk.log; refused = disk.refused; kept = kept_bytes disk.since; handed = handed_writes disk.since; settings = settings_of disk }

-- A call was judged as it was set, and counted. It may want memory or not.
pub record IsCounted {T : Type 0} (wants : Bool) (result : Result T DiskError) (old new : ModelDisk) : Type 0 where
  pub judged : Judged (stops_call old.stops) (fails_call old.stops) wants result
  pub after : new.stops ≡ after_call old.stops
  pub part : new.part ≡ old.part

-- the same of a sync, which wants no memory
pub record IsSyncCounted {T : Type 0} (result : Result T DiskError) (old new : ModelDisk) : Type 0 where
  pub judged : Judged (stops_sync old.stops) (fails_call old.stops) false result
  pub after : new.stops ≡ after_sync old.stops
  pub part : new.part ≡ old.part

-- what a failed change leaves of a file
abbrev pub PickedBy : {T : Type 0} → (sector : ℕ) (touches : ℕ → Type 0) (target : Value) (end : ℕ) → Part → Result T DiskError → FileState → FileState → Type 0
PickedBy sector touches target end part (Err Failed) old new = IsPicked sector touches target end part.pick.items part.new_len old new
PickedBy sector touches target end part (Err _) old new = Unit {0}
PickedBy sector touches target end part (Ok _) old new = Unit {0}

-- what a failed sync leaves of a file: of each sector the picked value is the present one
abbrev pub TurnedBy : {T : Type 0} → (sector : ℕ) → Part → Result T DiskError → FileState → FileState → Type 0
TurnedBy sector part (Err Failed) old new = (k : ℕ) → IsTurned sector old new k (picked part.pick.items true k (suc (length (old.earlier k))))
TurnedBy sector part (Err _) old new = Unit {0}
TurnedBy sector part (Ok _) old new = Unit {0}
