-- What fits an engine: the history of its databases, which is handed along from call to call and stored nowhere (own).
use Rattle.std.specs.Prelude.{◌≡◌, ℕ, ◌+◌, ◌<◌, ◌≤◌, true, IsTrue, List, length, get_or, []}
use Rattle.sqval.specs.Bytes.{word}
use Rattle.sqval.specs.Database.{Database}
use Rattle.sqval.specs.Held.{IsJust, IsHeld}
use Rattle.sqval.specs.Answers.{Files, Answer, Done, Refused}
use Rattle.sqjournal.specs.Header.{HasMagic}
use Rattle.sqjournal.specs.Journal.{IsHot}
use Rattle.crashdisk.specs.State.{IsImage}
use Rattle.crashdisk.specs.Call.{DiskState}
use Rattle.rollcore.specs.Changes.{MayChange}
use Rattle.rollcore.specs.Alone.{journal_log}
use Rattle.crashdisk.specs.Keeps.{Suits, IsLogDurable, IsSameDisk}
use Rattle.rollcore.specs.Machine.{State, Act, Opens, Step}
use Rattle.rollcore.specs.Refusal.{number_of}
use Rattle.rollcore.specs.declared.error.RollError.{RollError}
use Rattle.rollcore.specs.declared.error.RollError.TheVariants.{Device}
use Rattle.rollcore.specs.declared.state.Core.{Core}
use Rattle.rollcore.specs.declared.roll.Roll.{Roll}
use Rattle.recovery.specs.Files.{AreFiles}
use Rattle.recovery.specs.Logs.{MayBeRead, ShowsWhole}
use Rattle.recovery.specs.Histories.{at, newest}

-- Whatever is left of the log shows with whatever is left of the file one database of the history, at the floor or later.
abbrev pub ShowsHistory : (size : ℕ) (h : List Database) (floor : ℕ) → DiskState → Type 0
ShowsHistory size h floor s = (w : List ℕ) → MayBeRead journal_log s w
    → (k : ℕ) × (floor ≤ k) × (k < length h) × ((db : List ℕ) → IsImage s.sector s.tears s.db db → ShowsWhole journal_log size db w (get_or h k []))

-- On a disk that tears a hot journal that may be read names no smaller sectors, so that an opening replays it.
abbrev pub NamesSectors : DiskState → Type 0
NamesSectors s = s.tears ≡ true → (w : List ℕ) → MayBeRead journal_log s w → IsHot w → s.sector ≤ word w 20

-- What fits a disk. Whatever a crash leaves shows one database of the history, at the floor or later; and where the
-- machine is open, what is present shows the newest.
pub record FitsDisk (past : State) (s : DiskState) : Type 0 where
  pub suits : Suits past.page_size s
  pub floor : past.floor < length past.history
  pub held : (i : ℕ) → i < length past.history → IsHeld past.page_size (at past.history i)
  pub left : ShowsHistory past.page_size past.history past.floor s
  pub sectors : NamesSectors s
  pub present : IsTrue past.is_open → (files : Files) → AreFiles s files → ShowsWhole journal_log past.page_size files.db files.log (newest past.history)

-- A disk between two commits: each file that a crash may leave is just the database; the log is durable, and no header
-- begins at its front.
pub record Rests (size : ℕ) (d : Database) (s : DiskState) : Type 0 where
  pub file : (db : List ℕ) → IsImage s.sector s.tears s.db db → IsJust size d db
  pub log : (w : List ℕ) × IsLogDurable s w × (HasMagic w 0 → ⊥)

-- what an open core holds
pub record IsCore (past : State) (core : Core) (s : DiskState) : Type 0 where
  pub size : core.size ≡ length (newest past.history)
  pub rests : Rests past.page_size (newest past.history) s
  pub durable : past.floor + 1 ≡ length past.history
  pub record_room : length core.record.items ≡ past.page_size + 8
  pub header_room : length core.header.items ≡ s.sector

-- what fits a core and its disk
pub record FitsCore (past : State) (holds : Core) (s : DiskState) : Type 0 where
  pub disk : FitsDisk past s
  pub page_size : holds.page_size ≡ past.page_size
  pub is_open : holds.is_open ≡ past.is_open
  pub core : IsTrue holds.is_open → IsCore past holds s

-- what fits an engine
abbrev pub Fits : {D : Type 0} → (state_of : D → DiskState) → Roll D → State → Type 0
Fits state_of roll past = FitsCore past roll.core (state_of roll.disk)

-- One call: the machine goes on by a row of its table, and its state fits again. A call of the disk that was refused is told.
pub record StepsTo (past : State) (act : Act) (answer : Answer) (core : Core) (old new : DiskState) : Type 0 where
  pub next : State
  pub same : IsSameDisk (MayChange act past.page_size old.sector) old new
  pub refused : old.refused ≤ new.refused
  pub told : old.refused < new.refused → answer ≡ Refused (number_of Device)
  pub row : Step past act answer old.refused new.refused next
  pub fits : FitsCore next core new

-- a call takes a core from state to state of the disk, of each past that fits
abbrev pub Takes : Act → Answer → (old new : Core) → (before after : DiskState) → Type 0
Takes act answer old new before after = (past : State) → FitsCore past old before → StepsTo past act answer new before after

-- an opening that is done, from one state of the disk to another
abbrev pub OpenedTo : State → Files → Core → (before after : DiskState) → Type 0
OpenedTo past found core before after = StepsTo past (Opens found) Done core before after

-- and one that is refused
pub record GivenUpTo (past : State) (found : Files) (error : RollError) (before after : DiskState) : Type 0 where
  pub next : State
  pub same : IsSameDisk (MayChange (Opens found) past.page_size before.sector) before after
  pub refused : before.refused ≤ after.refused
  pub told : before.refused < after.refused → error ≡ Device
  pub row : Step past (Opens found) (Refused (number_of error)) before.refused after.refused next
  pub fits : FitsDisk next after
