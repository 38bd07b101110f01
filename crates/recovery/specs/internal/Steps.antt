-- What the steps of a recovery answer; `device` is the error by which they tell that a call of the disk was refused (own).
use Rattle.std.specs.Prelude.{◌≡◌, ◌⊎◌, ℕ, replicate, Result, Ok, IsErr}
use Rattle.crashdisk.specs.Call.{DiskState, Writes}
use Rattle.crashdisk.specs.Keeps.{HadRefusal}
use Rattle.crashdisk.specs.internal.Keeps.{Told, SyncStep}
use Rattle.crashdisk.specs.declared.file.File.TheVariants.{Db, Log}
use Rattle.crashdisk.specs.declared.error.DiskError.{DiskError}

-- so many zeros are written over the log's front, and then the log is synced
abbrev pub ZeroSteps : {T E : Type 0} → (device : E) → (count : ℕ) → Result T E → (old new : DiskState) → Type 0
ZeroSteps {T = T} device count result old new =
    ((called : Result T DiskError) × IsErr called × Told device called result × Writes Log 0 (replicate count 0) called old new)
    ⊎ ((mid : DiskState) × ((done : T) × Writes Log 0 (replicate count 0) (Ok done) old mid) × SyncStep device Log result mid new)

-- the database is synced, and then so many zeros are written over the log's front
abbrev pub EndSteps : {T E : Type 0} → (device : E) → (count : ℕ) → Result T E → (old new : DiskState) → Type 0
EndSteps {T = T} device count result old new =
    (IsErr result × SyncStep device Db result old new)
    ⊎ ((mid : DiskState) × ((done : T) × SyncStep device Db (Ok done) old mid) × ZeroSteps device count result mid new)

-- the error says that memory was short, or that a call of the disk was refused
abbrev pub MayRefuse : {E : Type 0} → (memory device error : E) → (old new : DiskState) → Type 0
MayRefuse memory device error old new = (error ≡ memory) ⊎ ((error ≡ device) × HadRefusal old new)
