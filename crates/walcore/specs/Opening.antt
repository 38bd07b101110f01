-- What the steps of an opening and of a restart do to a disk (own).
use Rattle.std.specs.Prelude.{◌≡◌, ◌⊎◌, ℕ, ◌*◌, ◌<◌, ◌≤◌, List, length, Result, Ok, Err, IfOk, IfErr, MatchResult}
use Rattle.sqwal.specs.Header.{named_size}
use Rattle.sqwal.specs.Frames.{IsFront}
use Rattle.crashdisk.specs.Call.{DiskState, Syncs}
use Rattle.crashdisk.specs.declared.file.File.TheVariants.{Log}
use Rattle.crashdisk.specs.declared.error.DiskError.{DiskError}
use Rattle.sqval.specs.CommitFaults.{most_bytes}
use Rattle.walcore.specs.Alone.{wal_log}
use Rattle.sqval.specs.Answers.{Files}
use Rattle.walcore.specs.Made.{NoChance, HasNewSalts}
use Rattle.walcore.specs.Folding.{FoldAnswer}
use Rattle.walcore.specs.Plans.{IsFit}
use Rattle.walcore.specs.Uncommitted.{IsUncommitted}
use Rattle.crashdisk.specs.Keeps.{TearsPages, KeepsBytes}
use Rattle.walcore.specs.Fits.{Past, FitsAlone, OpenedTo, GivenUpTo}
use Rattle.walcore.specs.declared.state.Core.{Core}
use Rattle.walcore.specs.declared.error.WalError.{WalError}
use Rattle.walcore.specs.declared.error.WalError.TheVariants.{TooLarge, PageSize, NoMemory, Device}
use Rattle.recovery.specs.Files.{AreFiles}
use Rattle.recovery.specs.Logs.{Agrees}

-- why no database has so many bytes: the first of these that holds
abbrev pub FileFault : (size long : ℕ) → WalError → Type 0
FileFault size long TooLarge = most_bytes < long
FileFault size long PageSize = (long ≤ most_bytes) × ((n : ℕ) → 1 ≤ n → n * size ≡ long → ⊥)
FileFault size long _ = ⊥

-- a database may have so many bytes
abbrev pub IsCounted : (size long : ℕ) → Type 0
IsCounted size long = (n : ℕ) × (1 ≤ n) × (n * size ≡ long) × (long ≤ most_bytes)

-- Why an opening is refused: as a fold is; or because of the file's length, where the log has no fault and no frames, and
-- then no byte has changed.
abbrev pub OpenRefused : (size : ℕ) (db w : List ℕ) → WalError → (old new : DiskState) → Type 0
OpenRefused size db w e old new =
    FoldAnswer size db w (Err e) old new ⊎ ((TearsPages size old → ⊥) × IsFit size w × IsFront (named_size w) w 0 × FileFault size (length db) e × KeepsBytes old new)

-- A disk and its files of which no opening is refused but by want of memory or by the disk: no page can be torn, the log
-- has no fault, and where that has no frames the file is one of whole pages.
pub record MayOpen (size : ℕ) (found : Files) (s : DiskState) : Type 0 where
  pub whole : TearsPages size s → ⊥
  pub fit : IsFit size found.log
  pub counted : IsFront (named_size found.log) found.log 0 → IsCounted size (length found.db)

-- An opening that is done: it may be done for the files that are found, and nothing is committed yet.
pub record OpensFiles (size : ℕ) (core : Core) (old new : DiskState) : Type 0 where
  pub files : (found : Files) → AreFiles old found → MayOpen size found old
  pub begun : IsUncommitted core new

-- what an opening does once a sync of the log was answered
abbrev pub OpensOn : {S T : Type 0} → (size : ℕ) → Result S DiskError → Result T WalError → (old new : DiskState) → Type 0
OpensOn size (Ok _) result old new = Agrees wal_log size old new
OpensOn size (Err _) result old new = (result ≡ Err Device) × (new ≡ old)

-- The log is synced first. So it is from that moment on that all which a crash may leave shows the database that it showed.
pub record OpensSynced {T : Type 0} (size : ℕ) (result : Result T WalError) (old new : DiskState) : Type 0 where
  pub called : Result (Unit {0}) DiskError
  pub mid : DiskState
  pub sync : Syncs Log called old mid
  pub rest : OpensOn size called result mid new

-- an opening without memory may call nothing
abbrev pub OpensFirst : {T : Type 0} → (size : ℕ) → Result T WalError → (old new : DiskState) → Type 0
OpensFirst size result old new = ((result ≡ Err NoMemory) × (new ≡ old)) ⊎ OpensSynced size result old new

-- What an opening with these salts does, at any history and any files. From its sync of the log on, all that a crash may
-- leave shows one database.
pub record OpensCore (size : ℕ) (salts : ℕ × ℕ) (result : Result Core WalError) (old new : DiskState) : Type 0 where
  pub step : (past : Past) (found : Files) → AreFiles old found → past.state.page_size ≡ size → FitsAlone past old → NoChance past.made.logs found.log → HasNewSalts past.made.logs salts.0 salts.1
      → MatchResult result (λ core. OpenedTo past salts found core old new) (λ error. GivenUpTo past salts found error old new)
  pub agrees : Agrees wal_log size old new
  pub refuses : (found : Files) → AreFiles old found → IfErr result (λ error. OpenRefused size found.db found.log error old new)
  pub opens : IfOk result (λ core. OpensFiles size core old new)
  pub synced : (TearsPages size old → ⊥) → OpensFirst size result old new
