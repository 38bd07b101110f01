-- What the calls of a fold answer, in one record each (fileformat2, 4.3).
use Rattle.std.specs.Prelude.{◌≡◌, ℕ, ◌*◌, ◌≤◌, List, length, Result}
use Rattle.sqval.specs.Database.{Database}
use Rattle.sqval.specs.Limits.{Bounds}
use Rattle.sqwal.specs.View.{Unnamed, IsView}
use Rattle.sqwal.specs.Index.{FrameTable}
use Rattle.crashdisk.specs.Call.{DiskState, ArePresent, HasCalls}
use Rattle.crashdisk.specs.Keeps.{Later, IsLong, IsLogDurable, TearsPages, TellsRefusal}
use Rattle.crashdisk.specs.internal.Keeps.{KeepsLog}
use Rattle.walcore.specs.Changes.{MayFillWithin, MayFoldWithin}
use Rattle.walcore.specs.Folding.{FoldsWithin}
use Rattle.walcore.specs.Lengths.{EndsBy, IsLengthOf, KeepsLength}
use Rattle.walcore.specs.internal.Lengths.{IsFronted}
use Rattle.walcore.specs.internal.Phases.{Scanning}
use Rattle.recovery.specs.Phases.{Filling}
use Rattle.walcore.specs.Plans.{IsFitWithin}
use Rattle.walcore.specs.internal.Plans.{IsCopy, IsPlan}
use Rattle.walcore.specs.Steps.{FoldCallsWithin}
use Rattle.walcore.specs.internal.Steps.{EndAnswer, Copied, FoldedAnswer}
use Rattle.walcore.specs.declared.folding.Folded.{Folded}
use Rattle.walcore.specs.declared.plan.Plan.{Plan}
use Rattle.walcore.specs.declared.error.WalError.{WalError}
use Rattle.walcore.specs.declared.error.WalError.TheVariants.{Device}
use Rattle.recovery.specs.Steps.{CopyAnswer}
use Rattle.recovery.specs.Logs.{ShowsAlone}
use Rattle.walcore.specs.Alone.{wal_log}

-- the pages 1 to count are copied from the frames 1 to m
pub record CopiesPages {T : Type 0} (size : ℕ) (t : FrameTable) (m count : ℕ) (result : Result T WalError) (old new : DiskState) : Type 0 where
  pub log : KeepsLog old new
  pub calls : (bytes : ℕ) → count * size ≤ bytes → HasCalls (MayFillWithin bytes size) old new
  pub told : TellsRefusal Device result old new
  pub pages : (db w : List ℕ) (d : Database) → ArePresent old.db db → ArePresent old.log w → IsCopy size count w m t → length d ≡ count → IsView size db w m d → CopyAnswer Device size d result old new
  pub filling : (w : List ℕ) (d : Database) → ArePresent old.log w → IsCopy size count w m t → length d ≡ count → Filling size d (Unnamed size w m) old → Filling size d (Unnamed size w m) new

-- the database is synced, and then the log is emptied
pub record Finishes {T : Type 0} (result : Result T WalError) (old new : DiskState) : Type 0 where
  pub later : (most size : ℕ) → Later (MayFoldWithin most size) old new
  pub told : TellsRefusal Device result old new
  pub ends : EndAnswer result old new
  pub shows : (size : ℕ) (w : List ℕ) (m : ℕ) (d : Database) → Copied size w m d old → ShowsAlone wal_log size d new
  pub long : (n : ℕ) → IsLong n old → IsLong n new
  pub lengths : (n : ℕ) (w : List ℕ) (m : ℕ) → old.db.len ≡ n → IsFronted w m old → EndsBy n new

-- what is planned is folded
pub record FoldsPlan (plan : Plan) (result : Result Folded WalError) (old new : DiskState) : Type 0 where
  pub calls : (most size : ℕ) (w : List ℕ) → IsPlan most size w plan → FoldCallsWithin most size result old new
  pub folds : (most size : ℕ) (db w : List ℕ) → ArePresent old.db db → ArePresent old.log w → IsPlan most size w plan → FoldedAnswer size db w result old new
  pub shows : (limits : Bounds) (size : ℕ) (w : List ℕ) (d : Database) → Scanning size d w old → IsPlan limits.bytes size w plan → IsFitWithin limits size w → ShowsAlone wal_log size d new
  pub lengths : (most size : ℕ) (w : List ℕ) (n : ℕ) → IsLogDurable old w → IsPlan most size w plan → IsLengthOf size w n old → EndsBy n new

-- the log is read, and what that plans is folded
pub record FoldsLog (limits : Bounds) (size : ℕ) (result : Result Folded WalError) (old new : DiskState) : Type 0 where
  pub calls : FoldCallsWithin limits.bytes size result old new
  pub folds : (TearsPages size old → ⊥) → FoldsWithin limits size result old new
  pub shows : (w : List ℕ) (d : Database) → Scanning size d w old → ShowsAlone wal_log size d new
  pub lengths : KeepsLength size old new

-- the same of a log of so many bytes
abbrev pub FoldsLong : (limits : Bounds) (long size : ℕ) → Result Folded WalError → (old new : DiskState) → Type 0
FoldsLong limits long size result old new = old.log.len ≡ long → FoldsLog limits size result old new
