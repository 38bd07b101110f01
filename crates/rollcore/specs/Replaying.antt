-- What the replay of a journal into its database does (fileformat2, 3). What it answers and refuses is own.
use Rattle.std.specs.Prelude.{◌≡◌, ◌⊎◌, ℕ, ◌*◌, ◌<◌, true, List, ◌++◌, length, drop, replicate, Result, Ok, Err, IsTrue}
use Rattle.sqval.specs.Bytes.{word}
use Rattle.sqjournal.specs.Journal.{IsHot}
use Rattle.sqjournal.specs.Restored.{Restores}
use Rattle.sqjournal.specs.Took.{HasCount}
use Rattle.crashdisk.specs.State.{IsSettled, longest}
use Rattle.crashdisk.specs.Call.{DiskState, ArePresent}
use Rattle.sqval.specs.CommitFaults.{most_bytes}
use Rattle.rollcore.specs.declared.replaying.Replayed.{Replayed}
use Rattle.rollcore.specs.declared.error.RollError.{RollError}
use Rattle.rollcore.specs.declared.error.RollError.TheVariants.{TooLarge, NoMemory, Device, SectorAbovePage}
use Rattle.crashdisk.specs.Keeps.{KeepsBytes, IsLogDurable, HadRefusal}

-- on a disk that tears, its sectors are larger than the pages of a journal or than the sectors that it names
abbrev pub TearsJournal : DiskState → List ℕ → Type 0
TearsJournal s w = (s.tears ≡ true) × IsHot w × ((word w 24 < s.sector) ⊎ (word w 20 < s.sector))

-- the journal is longer than is scanned, or its database has more than so many bytes
abbrev pub IsTooLargeWithin : (most : ℕ) → List ℕ → Type 0
IsTooLargeWithin most w = (longest < length w) ⊎ (IsHot w × (most < word w 16 * word w 24))

-- the same at the usual limit
abbrev pub IsTooLarge : List ℕ → Type 0
IsTooLarge w = IsTooLargeWithin most_bytes w

-- a journal with zeros for its first header
abbrev pub zeroed : List ℕ → List ℕ
zeroed w = replicate 28 0 ++ drop 28 w

-- A hot journal w was replayed into the file db. The file is durable, and just what the journal restores; the journal is
-- durable, with zeros for its first header.
pub record IsRolled (db w : List ℕ) (r : Replayed) (new : DiskState) : Type 0 where
  pub hot : IsTrue r.hot
  pub records : HasCount w r.records
  pub size : r.size ≡ word w 16
  pub file : (after : List ℕ) × Restores db w after × IsSettled new.db after
  pub log : IsLogDurable new (zeroed w)

-- no journal was hot, and no byte has changed
pub record IsIdle (r : Replayed) (old new : DiskState) : Type 0 where
  pub hot : IsTrue r.hot → ⊥
  pub records : r.records ≡ 0
  pub size : r.size ≡ 0
  pub bytes : KeepsBytes old new
  pub durable : (w : List ℕ) → IsLogDurable old w → IsLogDurable new w

-- what was replayed; the log isn't hot any more, so that replaying it again changes no byte
pub record IsReplayed (db w : List ℕ) (r : Replayed) (old new : DiskState) : Type 0 where
  pub rolled : IsHot w → IsRolled db w r new
  pub idle : (IsHot w → ⊥) → IsIdle r old new
  pub cold : (bytes : List ℕ) → ArePresent new.log bytes → IsHot bytes → ⊥

-- what a replay of a database of at most so many bytes answers, and what it leaves
abbrev pub ReplayAnswer : (most : ℕ) (db w : List ℕ) → Result Replayed RollError → (old new : DiskState) → Type 0
ReplayAnswer most db w (Ok r) old new = (IsTooLargeWithin most w → ⊥) × (TearsJournal old w → ⊥) × IsReplayed db w r old new
ReplayAnswer most db w (Err TooLarge) old new = IsTooLargeWithin most w × KeepsBytes old new
ReplayAnswer most db w (Err SectorAbovePage) old new = (IsTooLargeWithin most w → ⊥) × TearsJournal old w × KeepsBytes old new
ReplayAnswer most db w (Err NoMemory) old new = KeepsBytes old new
ReplayAnswer most db w (Err Device) old new = HadRefusal old new
ReplayAnswer most db w (Err _) old new = ⊥

-- for whatever bytes are present
abbrev pub Replays : (most : ℕ) → Result Replayed RollError → (old new : DiskState) → Type 0
Replays most result old new = (db w : List ℕ) → ArePresent old.db db → ArePresent old.log w → ReplayAnswer most db w result old new
