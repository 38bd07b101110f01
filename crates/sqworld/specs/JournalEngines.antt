-- How the engine of a run over a rollback journal, or the disk without one, goes from one event to the next (own).
use Rattle.std.specs.Prelude.{◌≡◌, ℕ, ◌<◌, ◌≤◌, Bool, false, ◌&&◌, Option, is_some, IfSome}
use Rattle.crashdisk.specs.Call.{DiskState, HasCalls}
use Rattle.crashdisk.specs.Keeps.{LooksOnce}
use Rattle.crashdisk.specs.Model.{state_of}
use Rattle.crashdisk.specs.Stop.{no_stops}
use Rattle.crashdisk.specs.declared.model.ModelDisk.{ModelDisk}
use Rattle.sqval.specs.Answers.{Answer, Refused}
use Rattle.rollcore.specs.Machine.{State, Act, Reads, Crashes, Sets, Step}
use Rattle.rollcore.specs.Changes.{MayChange}
use Rattle.rollcore.specs.Premises.{Permits}
use Rattle.rollcore.specs.Fits.{FitsDisk, Fits}
use Rattle.sqworld.specs.Run.{answer_of, files_of}
use Rattle.sqworld.specs.Engines.{IsLeftBy, IsLeftAt, stopping_after, stopping_at_sync, FailsAt}
use Rattle.sqworld.specs.JournalRun.{act_of, is_opening, is_crash}
use Rattle.sqworld.specs.declared.engine.Given.{Given}
use Rattle.sqworld.specs.declared.journal_engine.JournalEngine.{JournalEngine}
use Rattle.sqworld.specs.declared.journal_engine.JournalEngine.TheVariants.{Closed, Open}
use Rattle.sqworld.specs.declared.journal_event.JEvent.{JEvent}
use Rattle.sqworld.specs.declared.journal_event.JEvent.TheVariants.{StopAfter, StopAtSync, Fail, Crash, CrashAt}
use Rattle.sqworld.specs.declared.reply.Crashed.{Crashed as CrashedLog}
use Rattle.recovery.specs.Files.{AreFiles}

-- a stop or a failure is set as the event says
abbrev pub IsSetTo : JEvent → (old new : ModelDisk) → Type 0
IsSetTo (StopAfter calls) old new = new ≡ stopping_after calls old
IsSetTo (StopAtSync syncs) old new = new ≡ stopping_at_sync syncs old
IsSetTo (Fail call part) old new = FailsAt call part old new
IsSetTo event old new = Unit {0}

-- nothing is done to a disk without an engine but what is set
abbrev pub IsCalm : JEvent → (old new : ModelDisk) → Type 0
IsCalm (StopAfter calls) old new = Unit {0}
IsCalm (StopAtSync syncs) old new = Unit {0}
IsCalm (Fail call part) old new = Unit {0}
IsCalm event old new = new ≡ old

-- What an event does to the disk itself: a crash leaves the files that its choice or its number names, and nothing set.
abbrev pub Happens : (tears : Bool) → JEvent → Option CrashedLog → (old new : ModelDisk) → Type 0
Happens tears (Crash choice) left old new = IsLeftBy tears choice left (state_of old) (state_of new) × (new.stops ≡ no_stops)
Happens tears (CrashAt n) left old new = IsLeftAt tears n left (state_of old) (state_of new) × (new.stops ≡ no_stops)
Happens tears event left old new = IsSetTo event old new

-- Where a page is read nothing is done to the disk, or one call that changes no byte. Otherwise nothing is done but calls of
-- the disk, which ask for no other changes than this call of an engine may, with pages of this size and on these sectors;
-- unless the event sets a stop or a failure, or is a crash.
abbrev pub OnlyCalls : (size sector : ℕ) → Act → (old new : DiskState) → Type 0
OnlyCalls size sector Sets old new = Unit {0}
OnlyCalls size sector (Crashes left) old new = Unit {0}
OnlyCalls size sector (Reads page) old new = LooksOnce old new
OnlyCalls size sector act old new = HasCalls (MayChange act size sector) old new

-- The machine goes on by a row of its table, what is handed along fits again, and the disk's sectors are the same.
pub record ServesTo (past : State) (act : Act) (answer : Answer) (FitsNext : State → Type 0) (old new : DiskState) : Type 0 where
  pub next : State
  pub refused : old.refused ≤ new.refused
  -- a refused call of the disk is told
  pub told : old.refused < new.refused → answer ≡ Refused 15
  pub row : Step past act answer old.refused new.refused next
  pub fits : FitsNext next
  pub sector : new.sector ≡ old.sector
  pub tears : new.tears ≡ old.tears
  pub calls : OnlyCalls past.page_size old.sector act old new

-- one event, for whatever fits
abbrev pub Serves : (page_size : ℕ) (FitsOld FitsNext : State → Type 0) (old new : DiskState) → Act → Answer → Type 0
Serves page_size FitsOld FitsNext old new act answer =
    (past : State) → past.page_size ≡ page_size → FitsOld past → Permits act → ServesTo past act answer FitsNext old new

-- what fits a disk without an engine
pub record FitsClosed (past : State) (s : DiskState) : Type 0 where
  pub disk : FitsDisk past s
  pub is_closed : past.is_open ≡ false

-- what fits an engine, or the disk without one
abbrev pub FitsEngine : State → JournalEngine → Type 0
FitsEngine past (Closed disk) = FitsClosed past (state_of disk)
FitsEngine past (Open roll) = Fits state_of roll past

-- the disk, and what it lists
abbrev pub model_of : JournalEngine → ModelDisk
model_of (Closed disk) = disk
model_of (Open roll) = roll.disk

abbrev pub disk_of : JournalEngine → DiskState
disk_of engine = state_of (model_of engine)

-- one event, for whatever fits the engine
abbrev pub EngineServes : (page_size : ℕ) (old new : JournalEngine) → Act → Answer → Type 0
EngineServes page_size old new act answer = Serves page_size (λ past. FitsEngine past old) (λ past. FitsEngine past new) (disk_of old) (disk_of new) act answer

-- without an engine nothing is done to the disk but what is set, unless the event is an opening or a crash
abbrev pub Rests : JEvent → (old new : JournalEngine) → Type 0
Rests event (Closed disk) new = is_opening event ≡ false → is_crash event ≡ false → IsCalm event disk (model_of new)
Rests event (Open roll) new = Unit {0}

-- What was found is given at an opening, and that was there; what was left at a crash of a disk that tears; and the event
-- happens, rests without an engine, and is served.
pub record Answers (page_size : ℕ) (tears : Bool) (event : JEvent) (old : JournalEngine) (given : Given) (new : JournalEngine) : Type 0 where
  pub found : is_some given.found ≡ is_opening event
  pub present : IfSome given.found (λ found. AreFiles (disk_of old) (files_of found))
  pub crashed : is_some given.crashed ≡ (tears && is_crash event)
  pub happens : Happens tears event given.crashed (model_of old) (model_of new)
  pub rests : Rests event old new
  pub serves : (disk_of old).tears ≡ tears → EngineServes page_size old new (act_of event given.found given.crashed) (answer_of given.reply)
