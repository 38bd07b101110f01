-- What the parts of a replay do to a disk (fileformat2, 3).
use Rattle.std.specs.Prelude.{◌≡◌, ◌⊎◌, ℕ, ◌<◌, ◌≤◌, Bool, false, cond, List, [], ◌++◌, length, Result, Ok, Err}
use Rattle.sqjournal.specs.Journal.{IsHot}
use Rattle.sqjournal.specs.Took.{Took, IsSettled as IsSettledFront}
use Rattle.sqjournal.specs.declared.replay.Replay.{Replay}
use Rattle.sqjournal.specs.declared.error.JournalError.{JournalError}
use Rattle.sqjournal.specs.declared.error.JournalError.TheVariants.{TooLong, NoMemory}
use Rattle.crashdisk.specs.State.{IsSettled, longest}
use Rattle.crashdisk.specs.Call.{DiskState, ArePresent}
use Rattle.rollcore.specs.Replaying.{zeroed, IsRolled}
use Rattle.crashdisk.specs.Keeps.{HadRefusal, IsLogDurable}
use Rattle.rollcore.specs.declared.replaying.Replayed.{Replayed}
use Rattle.rollcore.specs.declared.error.RollError.{RollError}
use Rattle.rollcore.specs.declared.error.RollError.TheVariants.{TooLarge, NoMemory as RollNoMemory, Device}
use Rattle.recovery.specs.Scanning.{ScanKind}

-- the size of a sector that may tear, 0 where none may
abbrev pub torn_sector : DiskState → ℕ
torn_sector s = cond s.tears s.sector 0

-- ---- The scan.

-- why the scan of the journal w is refused
unfoldable pub ScanRefused : List ℕ → RollError → (old new : DiskState) → Type 0
ScanRefused w TooLarge old new = longest < length w
ScanRefused w RollNoMemory old new = Unit {0}
ScanRefused w Device old new = HadRefusal old new
ScanRefused w _ old new = ⊥

-- how a refusal of the scan is answered
abbrev pub IsWithoutHeader : JournalError → Result Bool RollError → Type 0
IsWithoutHeader TooLong r = r ≡ Err TooLarge
IsWithoutHeader NoMemory r = r ≡ Err RollNoMemory
IsWithoutHeader e r = r ≡ Ok false

-- the scan has taken the journal, or a front of it behind which no bytes change what it says
pub record HasRead (w : List ℕ) (s : Replay) : Type 0 where
  pub front : List ℕ
  pub more : List ℕ
  pub split : w ≡ front ++ more
  pub took : Took front s
  pub rest : (more ≡ []) ⊎ IsSettledFront front

-- the scan of a journal, which counts where it is hot
abbrev pub journal_scan : ScanKind Replay RollError
journal_scan = record { Took = Took; Read = HasRead; Counts = IsHot; Refused = ScanRefused }

-- ---- The end.

-- the database is durable, and so is the log, with zeros for its first header
unfoldable pub EndAnswer : {T : Type 0} → Result T RollError → (old new : DiskState) → Type 0
EndAnswer (Ok _) old new = ((db : List ℕ) → ArePresent old.db db → IsSettled new.db db)
    × ((w : List ℕ) → ArePresent old.log w → 28 ≤ length w → IsLogDurable new (zeroed w))
EndAnswer (Err e) old new = (e ≡ Device) × HadRefusal old new

-- what is planned was replayed
unfoldable pub RolledAnswer : (db w : List ℕ) → Result Replayed RollError → (old new : DiskState) → Type 0
RolledAnswer db w (Ok r) old new = IsRolled db w r new
RolledAnswer db w (Err e) old new = (e ≡ Device) × HadRefusal old new
