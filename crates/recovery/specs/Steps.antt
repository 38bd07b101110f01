-- What the steps of a recovery answer; `device` is the error by which they tell that a call of the disk was refused (own).
use Rattle.std.specs.Prelude.{◌≡◌, ◌⊎◌, ℕ, replicate, Result, Ok, Err, IsErr}
use Rattle.sqval.specs.Database.{Database}
use Rattle.crashdisk.specs.Call.{DiskState, Writes, Syncs}
use Rattle.crashdisk.specs.Keeps.{HadRefusal}
use Rattle.crashdisk.specs.declared.file.File.TheVariants.{Db, Log}
use Rattle.crashdisk.specs.declared.error.DiskError.{DiskError}
use Rattle.recovery.specs.Files.{ArePages}

-- what follows once a sync of the log was answered: the rest, or nothing
abbrev pub GoesOn : {S T E : Type 0} → (device : E) → (Rest : (old new : DiskState) → Type 0) → Result S DiskError → Result T E → (old new : DiskState) → Type 0
GoesOn device Rest (Ok _) result old new = Rest old new
GoesOn device Rest (Err _) result old new = (result ≡ Err device) × (new ≡ old)

-- The log is synced first. So it is from that moment on that all which a crash may leave shows the database that it showed.
pub record SyncsFirst {T E : Type 0} (device : E) (Rest : (old new : DiskState) → Type 0) (result : Result T E) (old new : DiskState) : Type 0 where
  pub called : Result (Unit {0}) DiskError
  pub mid : DiskState
  pub sync : Syncs Log called old mid
  pub rest : GoesOn device Rest called result mid new

-- the pages of d were copied into the file
unfoldable pub CopyAnswer : {T E : Type 0} → (device : E) → (size : ℕ) → Database → Result T E → (old new : DiskState) → Type 0
CopyAnswer device size d (Ok _) old new = ArePages size d new.db
CopyAnswer device size d (Err e) old new = (e ≡ device) × HadRefusal old new

-- the database is synced, then so many zeros are written over the log's front, and then the log is synced: all of it, or
-- up to the call that is refused
abbrev pub Ends : (count : ℕ) → Result (Unit {0}) DiskError → (old new : DiskState) → Type 0
Ends count result old new =
    (IsErr result × Syncs Db result old new)
    ⊎ ((synced : DiskState) × Syncs Db (Ok (tt {0})) old synced × ((IsErr result × Writes Log 0 (replicate count 0) result synced new)
    ⊎ ((zeroed : DiskState) × Writes Log 0 (replicate count 0) (Ok (tt {0})) synced zeroed × Syncs Log result zeroed new)))
