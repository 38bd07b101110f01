-- What holds of every run (own).
use Rattle.std.specs.Prelude.{◌≡◌, ◌⊎◌, ℕ, ◌+◌, ◌<◌, ◌≤◌, Bool, true, false, cond, length, take, Option, Some, None}
use Rattle.sqval.specs.Database.{Database, page}
use Rattle.crashdisk.specs.Call.{DiskState}
use Rattle.sqval.specs.Answers.{Answer, Done, Reader, Page, Complete, Partial, NoReader, told}
use Rattle.walcore.specs.CommitRefusals.{most_pages}
use Rattle.walcore.specs.Machine.{State, reader_at, all_newest, Act, Opens, Commits, Syncs, Begins, Reads, Ends, Checkpoints, Restarts, Crashes, Sets, call_refusal, commit_refusal, read_refusal, restart_refusal}
use Rattle.recovery.specs.Logs.{ShowsAlone}
use Rattle.walcore.specs.Alone.{wal_log}
use Rattle.recovery.specs.Histories.{at}

-- what holds of the machine in each run
pub record IsSane (s : State) : Type 0 where
  -- the floor is a place of the history
  pub floor : s.floor < length s.history
  pub few : s.used ≤ most_pages
  -- a drained log has no reader of anything but the newest database
  pub newest : s.drained ≡ true → all_newest s ≡ true

-- what is known to be durable stays: no floor falls, and the databases up to it stand; nor does the page size change
pub record Keeps (old new : State) : Type 0 where
  pub page_size : new.page_size ≡ old.page_size
  pub floor : old.floor ≤ new.floor
  pub durable : take (old.floor + 1) new.history ≡ take (old.floor + 1) old.history

-- the one database that a disk shows alone stays shown
abbrev pub KeepsShown : (old new : DiskState) → Type 0
KeepsShown old new = (size : ℕ) (d : Database) → ShowsAlone wal_log size d old → ShowsAlone wal_log size d new

-- ---- What is answered where memory is ample and the disk refuses no call.

-- what a read answers, by the place that the reader is bound to, if it is open
abbrev pub shown : State → Option ℕ → (number : ℕ) → Answer
shown s None number = NoReader
shown s (Some i) number = told (read_refusal s i number) (Page (page (at s.history i) number))

-- what the end of a reader answers
abbrev pub at_end : Option ℕ → Answer
at_end None = NoReader
at_end (Some i) = Done

-- what each call answers
abbrev pub expected : State → Act → Answer
expected s (Opens salts found) = Done
expected s (Commits pages size) = told (commit_refusal s pages size) Done
expected s Syncs = told (call_refusal s) Done
expected s Begins = told (call_refusal s) (Reader (length s.readers))
expected s (Reads reader number) = shown s (reader_at s reader) number
expected s (Ends reader) = at_end (reader_at s reader)
expected s Checkpoints = told (call_refusal s) (cond (all_newest s) Complete Partial)
expected s (Restarts salt2) = told (restart_refusal s) Done
expected s (Crashes left) = Done
expected s Sets = Done

-- ---- What may stand in its place.

-- a call that may want memory
abbrev pub takes_memory : Act → Bool
takes_memory (Opens salts found) = true
takes_memory (Commits pages size) = true
takes_memory Begins = true
takes_memory _ = false

-- a call of the engine that may need the disk
abbrev pub needs_disk : Act → Bool
needs_disk (Ends reader) = false
needs_disk (Crashes left) = false
needs_disk Sets = false
needs_disk _ = true

abbrev pub is_opening : Act → Bool
is_opening (Opens salts found) = true
is_opening act = false
