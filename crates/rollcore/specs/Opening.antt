-- What the steps of an opening do to a disk (own).
use Rattle.std.specs.Prelude.{◌≡◌, ◌≢◌, ◌⊎◌, ℕ, ◌*◌, ◌<◌, ◌≤◌, List, ◌∷◌, length, drop, Result, Ok, Err, OnOk, IfErr, MatchResult}
use Rattle.sqval.specs.Bytes.{word}
use Rattle.sqval.specs.CommitFaults.{most_bytes}
use Rattle.sqjournal.specs.Header.{HasMagic}
use Rattle.sqjournal.specs.Journal.{IsHot}
use Rattle.crashdisk.specs.Call.{DiskState, ArePresent, Syncs}
use Rattle.crashdisk.specs.declared.file.File.TheVariants.{Log}
use Rattle.crashdisk.specs.declared.error.DiskError.{DiskError}
use Rattle.rollcore.specs.Replaying.{TearsJournal, IsTooLarge, IsRolled}
use Rattle.crashdisk.specs.Keeps.{HadRefusal, KeepsBytes, IsLogDurable, TearsPages}
use Rattle.sqval.specs.Answers.{Files}
use Rattle.rollcore.specs.Alone.{journal_log}
use Rattle.rollcore.specs.Machine.{State}
use Rattle.rollcore.specs.Fits.{FitsDisk, OpenedTo, GivenUpTo}
use Rattle.rollcore.specs.declared.state.Core.{Core}
use Rattle.rollcore.specs.declared.replaying.Replayed.{Replayed}
use Rattle.rollcore.specs.declared.error.RollError.{RollError}
use Rattle.rollcore.specs.declared.error.RollError.TheVariants.{TooLarge, PageSize, NoMemory, Device, SectorAbovePage}
use Rattle.recovery.specs.Files.{AreFiles}
use Rattle.recovery.specs.Logs.{Agrees}

-- a log whose first byte is made a zero where a magic stood there, and that is as it was where none did
pub record LosesMagic (w v : List ℕ) : Type 0 where
  pub broken : HasMagic w 0 → v ≡ 0 ∷ drop 1 w
  pub same : (HasMagic w 0 → ⊥) → v ≡ w

-- ---- Refusals, whatever stands on the disk.

-- the journal is too large, or there is no hot one and the file is above the limit
abbrev pub IsAboveLimit : (db w : List ℕ) → Type 0
IsAboveLimit db w = IsTooLarge w ⊎ ((IsHot w → ⊥) × (most_bytes < length db))

-- a hot journal names another page size or a database of no pages, or there is none and the file has no such pages
abbrev pub IsOfOtherSize : (size : ℕ) (db w : List ℕ) → Type 0
IsOfOtherSize size db w = (IsHot w × ((word w 24 ≢ size) ⊎ (word w 16 ≡ 0))) ⊎ ((IsHot w → ⊥) × ((n : ℕ) → 1 ≤ n → n * size ≡ length db → ⊥))

-- What refuses an opening of the file db with the journal w: TooLarge, SectorAbovePage, PageSize, the first that holds;
-- or want of memory, or a refused call of the disk, in its place.
abbrev pub RefusedFor : (size : ℕ) (db w : List ℕ) → RollError → (old new : DiskState) → Type 0
RefusedFor size db w TooLarge old new = IsAboveLimit db w × KeepsBytes old new
RefusedFor size db w SectorAbovePage old new = (IsAboveLimit db w → ⊥) × TearsJournal old w × KeepsBytes old new
RefusedFor size db w PageSize old new = (IsAboveLimit db w → ⊥) × (TearsJournal old w → ⊥) × IsOfOtherSize size db w × KeepsBytes old new
RefusedFor size db w NoMemory old new = KeepsBytes old new
RefusedFor size db w Device old new = HadRefusal old new
RefusedFor size db w _ old new = ⊥

-- larger sectors refuse it before anything else; otherwise the log may have been synced, and no byte has changed but after Device
abbrev pub OpenRefused : (size : ℕ) → RollError → (old new : DiskState) → Type 0
OpenRefused size error old new =
    ((error ≡ SectorAbovePage) × TearsPages size old × (new ≡ old))
    ⊎ ((TearsPages size old → ⊥) × ((db w : List ℕ) → ArePresent old.db db → ArePresent old.log w → RefusedFor size db w error old new))

-- ---- What is granted.

-- An opening is granted for the file db with the journal w: a hot journal names this page size and a database of pages;
-- where there is none the file has a whole number of pages, one at least; and neither is above the limit.
pub record MayOpen (size : ℕ) (db w : List ℕ) (s : DiskState) : Type 0 where
  pub within : IsAboveLimit db w → ⊥
  pub sectors : TearsJournal s w → ⊥
  pub hot : IsHot w → (word w 24 ≡ size) × (1 ≤ word w 16)
  pub cold : (IsHot w → ⊥) → (n : ℕ) × (1 ≤ n) × (n * size ≡ length db)

-- What an opening that is done leaves of the file db and the journal w: a hot journal is replayed; where it isn't hot, the
-- file is left alone, and of the log at most the first byte is changed.
pub record LeavesFiles (db w : List ℕ) (old new : DiskState) : Type 0 where
  pub hot : IsHot w → (r : Replayed) × IsRolled db w r new
  pub file : (IsHot w → ⊥) → new.db ≡ old.db
  pub log : (IsHot w → ⊥) → (v : List ℕ) × IsLogDurable new v × LosesMagic w v

-- An opening that is done: no page is smaller than a sector that tears, the files are what an opening is granted for, and
-- they are left so.
pub record OpensFiles (size : ℕ) (old new : DiskState) : Type 0 where
  pub whole : TearsPages size old → ⊥
  pub files : (db w : List ℕ) → ArePresent old.db db → ArePresent old.log w → MayOpen size db w old × LeavesFiles db w old new

-- ---- The log is synced first.

-- The log is synced. So it is from that moment on that all which a crash may leave, and what is present, shows the database
-- that it showed.
pub record AgreesSynced (old new : DiskState) : Type 0 where
  pub mid : DiskState
  pub sync : Syncs {T = Unit {0}} Log (Ok tt) old mid
  pub agrees : (size : ℕ) → Agrees journal_log size mid new

-- the same of an opening that is refused, unless it was before that sync, or by that sync
abbrev pub RefusedSynced : RollError → (old new : DiskState) → Type 0
RefusedSynced error old new =
    (new ≡ old) ⊎ (((failure : DiskError) × (error ≡ Device) × Syncs {T = Unit {0}} Log (Err failure) old new) ⊎ AgreesSynced old new)

-- ---- What the steps of an opening answer, in one record each.

-- What an opening does, at any history and any files: a row of the machine for a history that fits. The log is synced first:
-- from then on all that a crash may leave shows the database that it showed.
pub record OpensCore (size : ℕ) (result : Result Core RollError) (old new : DiskState) : Type 0 where
  pub step : (past : State) (found : Files) → AreFiles old found → past.page_size ≡ size → FitsDisk past old
      → MatchResult result (λ core. OpenedTo past found core old new) (λ error. GivenUpTo past found error old new)
  pub agrees : (size : ℕ) → Agrees journal_log size old new
  pub synced : MatchResult result (λ _. AgreesSynced old new) (λ e. RefusedSynced e old new)
  pub refuses : IfErr result (λ e. OpenRefused size e old new)
  pub opens : OnOk result (OpensFiles size old new)
