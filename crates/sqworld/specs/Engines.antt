-- How the engine of a run, or the disk without one, goes from one event to the next (own).
use Rattle.std.specs.Prelude.{◌≡◌, ℕ, Bool, true, false, ◌&&◌, List, replicate, Option, Some, None, is_some, IfSome}
use Rattle.crashdisk.specs.Call.{DiskState, of, IsCrash}
use Rattle.crashdisk.specs.Choice.{naming_of, image_of}
use Rattle.crashdisk.specs.Count.{IsChoice}
use Rattle.crashdisk.specs.Model.{state_of}
use Rattle.crashdisk.specs.Stop.{no_stops}
use Rattle.crashdisk.specs.declared.choice.Choice.{Choice}
use Rattle.crashdisk.specs.declared.choice.FileChoice.{FileChoice}
use Rattle.crashdisk.specs.declared.file.File.{File}
use Rattle.crashdisk.specs.declared.file.File.TheVariants.{Db, Log}
use Rattle.crashdisk.specs.declared.held.Part.{Part}
use Rattle.crashdisk.specs.declared.model.ModelDisk.{ModelDisk}
use Rattle.sqval.specs.Answers.{Answer, Crashed}
use Rattle.walcore.specs.Machine.{Act, forgotten}
use Rattle.walcore.specs.Fits.{Past, FitsAlone}
use Rattle.sqworld.specs.Run.{act_of, answer_of, files_of, left_of, is_opening, is_crash}
use Rattle.sqworld.specs.Sessions.{FitsSession, Serves}
use Rattle.sqworld.specs.declared.wal_engine.WalEngine.{WalEngine}
use Rattle.sqworld.specs.declared.wal_engine.WalEngine.TheVariants.{Closed, Open}
use Rattle.sqworld.specs.declared.engine.Given.{Given}
use Rattle.sqworld.specs.declared.event.Event.{Event}
use Rattle.sqworld.specs.declared.event.Event.TheVariants.{StopAfter, StopAtSync, Fail, Crash, CrashAt}
use Rattle.sqworld.specs.declared.reply.Crashed.{Crashed as CrashedLog}
use Rattle.recovery.specs.Files.{AreFiles}

-- what is said of a crash: what it left of the log, on a disk that tears alone
abbrev pub SaysLeft : (tears : Bool) → Option CrashedLog → Crashed → Type 0
SaysLeft true (Some crashed) left = left_of crashed ≡ left
SaysLeft false None left = Unit {0}
SaysLeft _ _ left = ⊥

-- the file that a choice names
abbrev pub chosen : FileChoice → File → DiskState → List ℕ
chosen choice f s = image_of s.sector s.tears (of f s) (naming_of choice)

-- a crash left the files that the choice names
pub record IsLeftBy (tears : Bool) (choice : Choice) (left : Option CrashedLog) (old new : DiskState) : Type 0 where
  pub crash : IsCrash (chosen choice.db Db old) (chosen choice.log Log old) old new
  pub some : is_some left ≡ tears
  pub says : old.tears ≡ tears → SaysLeft tears left (record { log = chosen choice.log Log old; kept = old.kept; handed = old.handed })

-- A crash left the files that the choice of this number names, as crashdisk counts them: the digits of the number are first
-- those of the database, and then those of the log.
pub record IsLeftAt (tears : Bool) (n : ℕ) (left : Option CrashedLog) (old new : DiskState) : Type 0 where
  pub choice : Choice
  pub named : IsChoice old.sector old.db old.log n (naming_of choice.db) (naming_of choice.log)
  pub left_by : IsLeftBy tears choice left old new

-- ---- What is set of a modelled disk.

-- it stops after so many calls, or at the sync of this number
abbrev pub stopping_after : (calls : ℕ) → ModelDisk → ModelDisk
stopping_after calls disk = record disk { stops = record disk.stops { calls = Some calls } }

abbrev pub stopping_at_sync : (syncs : ℕ) → ModelDisk → ModelDisk
stopping_at_sync syncs disk = record disk { stops = record disk.stops { syncs = syncs } }

-- the call of this number fails, and this part is left
pub record FailsAt (call : ℕ) (part : Part) (old new : ModelDisk) : Type 0 where
  pub pick : new.part.pick.items ≡ part.pick.items
  pub new_len : new.part.new_len ≡ part.new_len
  pub rest : new ≡ record old { stops = record old.stops { fails = call }; part = new.part }

-- a stop or a failure is set as the event says
abbrev pub IsSetTo : Event → (old new : ModelDisk) → Type 0
IsSetTo (StopAfter calls) old new = new ≡ stopping_after calls old
IsSetTo (StopAtSync syncs) old new = new ≡ stopping_at_sync syncs old
IsSetTo (Fail call part) old new = FailsAt call part old new
IsSetTo event old new = Unit {0}

-- nothing is done to a disk without an engine but what is set
abbrev pub IsCalm : Event → (old new : ModelDisk) → Type 0
IsCalm (StopAfter calls) old new = Unit {0}
IsCalm (StopAtSync syncs) old new = Unit {0}
IsCalm (Fail call part) old new = Unit {0}
IsCalm event old new = new ≡ old

-- What an event does to the disk itself: a crash leaves the files that its choice or its number names, and nothing set.
abbrev pub Happens : (tears : Bool) → Event → Option CrashedLog → (old new : ModelDisk) → Type 0
Happens tears (Crash choice) left old new = IsLeftBy tears choice left (state_of old) (state_of new) × (new.stops ≡ no_stops)
Happens tears (CrashAt n) left old new = IsLeftAt tears n left (state_of old) (state_of new) × (new.stops ≡ no_stops)
Happens tears event left old new = IsSetTo event old new

-- what fits a disk without an engine
pub record FitsClosed (past : Past) (begun : ℕ) (s : DiskState) : Type 0 where
  pub alone : FitsAlone past s
  pub is_closed : past.state.is_open ≡ false
  pub readers : past.state.readers ≡ forgotten past.state.readers
  pub tokens : past.tokens ≡ replicate begun None

-- what fits an engine, or the disk without one
abbrev pub FitsEngine : Past → WalEngine → Type 0
FitsEngine past (Closed disk begun) = FitsClosed past begun (state_of disk)
FitsEngine past (Open session) = FitsSession past session

-- the disk, and what it lists
abbrev pub model_of : WalEngine → ModelDisk
model_of (Closed disk begun) = disk
model_of (Open session) = session.wal.disk

abbrev pub disk_of : WalEngine → DiskState
disk_of engine = state_of (model_of engine)

-- one event, for whatever fits the engine
abbrev pub EngineServes : (page_size : ℕ) (old new : WalEngine) → Act → Answer → Type 0
EngineServes page_size old new act answer = Serves page_size (λ past. FitsEngine past old) (λ past. FitsEngine past new) (disk_of old) (disk_of new) act answer

-- without an engine nothing is done to the disk but what is set, unless the event is an opening or a crash
abbrev pub Rests : Event → (old new : WalEngine) → Type 0
Rests event (Closed disk begun) new = is_opening event ≡ false → is_crash event ≡ false → IsCalm event disk (model_of new)
Rests event (Open session) new = Unit {0}

-- What was found is given at an opening, and that was there; what was left at a crash of a disk that tears; and the event
-- happens, rests without an engine, and is served.
pub record Answers (page_size : ℕ) (tears : Bool) (event : Event) (old : WalEngine) (given : Given) (new : WalEngine) : Type 0 where
  pub found : is_some given.found ≡ is_opening event
  pub present : IfSome given.found (λ found. AreFiles (disk_of old) (files_of found))
  pub crashed : is_some given.crashed ≡ (tears && is_crash event)
  pub happens : Happens tears event given.crashed (model_of old) (model_of new)
  pub rests : Rests event old new
  pub serves : (disk_of old).tears ≡ tears → EngineServes page_size old new (act_of event given.found given.crashed) (answer_of given.reply)
