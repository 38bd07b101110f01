-- The machine of an engine with a write-ahead log: what each call may answer, and what it steps to (own).
use Rattle.std.specs.Prelude.{◌≡◌, ◌⊎◌, ℕ, ◌+◌, ◌-◌, ◌<◌, ◌≤◌, Bool, true, false, cond, not, ◌==◌, nat_lt, IsTrue, IsFalse, List, [], ◌∷◌, ◌++◌, map, length, take, get_or, set, Option, Some, None, is_some}
use Rattle.std.specs.List.{list_any, list_all}
use Rattle.sqval.specs.Database.{Database, Pages, page, apply}
use Rattle.sqval.specs.Answers.{HasCause, Files, Crashed, Answer, Done, Reader, Page, Complete, Partial, NoReader, Refused, Refuses, PlainStep}
use Rattle.walcore.specs.Alone.{Show}
use Rattle.sqval.specs.CommitFaults.{first_true}
use Rattle.walcore.specs.CommitRefusals.{refusal_of}
use Rattle.recovery.specs.Histories.{at, last, newest}

-- what happens
pub data Act : Type 0 where
  -- an opening, with the files that it finds
  Opens : (salts : ℕ × ℕ) → (found : Files) → Act
  Commits : (pages : Pages) → (size : ℕ) → Act
  Syncs : Act
  Begins : Act
  Reads : (reader page : ℕ) → Act
  Ends : (reader : ℕ) → Act
  Checkpoints : Act
  Restarts : (salt2 : ℕ) → Act
  -- a crash, with what it left on a disk that tears
  Crashes : (left : Option Crashed) → Act
  -- a stop or a failure of the disk is set
  Sets : Act

-- the state of the machine
pub record State : Type 0 where
  pub page_size : ℕ
  -- the base, and what each commit made
  pub history : List Database
  -- the place of the last one known to be durable
  pub floor : ℕ
  -- for each reader that was ever given, by its number, the place of its database, while it is open
  pub readers : List (Option ℕ)
  pub is_open : Bool
  -- the newest database is in the file
  pub drained : Bool
  -- pages committed since the last opening or restart
  pub used : ℕ

-- with the base alone, and closed
abbrev pub start : (page_size : ℕ) → Database → State
start page_size base = record { page_size = page_size; history = base ∷ []; floor = 0; readers = []; is_open = false; drained = false; used = 0 }

-- the place that an open reader is bound to
abbrev pub reader_at : State → (reader : ℕ) → Option ℕ
reader_at s reader = get_or s.readers reader None

-- a reader, if it is open, is bound to this place
abbrev pub is_bound : ℕ → Option ℕ → Bool
is_bound i None = true
is_bound i (Some j) = j == i

-- each open reader is bound to the newest database
abbrev pub all_newest : State → Bool
all_newest s = list_all (is_bound (last s.history)) s.readers

-- ---- What calls step to.

-- no reader is open
abbrev pub forgotten : List (Option ℕ) → List (Option ℕ)
forgotten readers = map (λ _. None) readers

-- an opening that showed the database at place k
abbrev pub opened : State → (k : ℕ) → State
opened s k = record s { history = take (k + 1) s.history; floor = k; readers = forgotten s.readers; is_open = true; drained = true; used = 0 }

-- after a crash, or an opening that was refused
abbrev pub gone : State → State
gone s = record s { readers = forgotten s.readers; is_open = false }

-- a call of the disk was refused
abbrev pub closed : State → State
closed s = record s { is_open = false }

-- a commit, which is not known to be durable
abbrev pub committed : State → Pages → (size : ℕ) → State
committed s pages size = record s { history = s.history ++ apply (newest s.history) pages size ∷ []; used = s.used + length pages; drained = false }

abbrev pub synced : State → State
synced s = record s { floor = last s.history }

abbrev pub checkpointed : State → State
checkpointed s = record s { floor = last s.history; drained = all_newest s }

abbrev pub restarted : State → State
restarted s = record s { used = 0 }

abbrev pub begun : State → State
begun s = record s { readers = s.readers ++ Some (last s.history) ∷ [] }

abbrev pub ended : State → (reader : ℕ) → State
ended s reader = record s { readers = set s.readers reader None }

-- ---- Refusals: of each call the first that holds.

-- of a sync, a beginning of a reader and a checkpoint
abbrev pub call_refusal : State → Option ℕ
call_refusal s = first_true ((not s.is_open, 1) ∷ [])

abbrev pub commit_refusal : State → Pages → (size : ℕ) → Option ℕ
commit_refusal s pages size = cond s.is_open (refusal_of (length (newest s.history)) s.page_size s.used pages size) (Some 1)

-- of a read of this page of the database at place i
abbrev pub read_refusal : State → (i number : ℕ) → Option ℕ
read_refusal s i number = first_true ((not s.is_open, 1) ∷ (number == 0, 4) ∷ (nat_lt (length (at s.history i)) number, 5) ∷ [])

abbrev pub restart_refusal : State → Option ℕ
restart_refusal s = first_true ((not s.is_open, 1) ∷ (not s.drained, 11) ∷ (list_any is_some s.readers, 12) ∷ [])

-- ---- Calls, each with its answers. No other answer is given.

-- An opening shows a database of the history, at the floor or later, and the newest where the machine was open. What
-- came after it is gone.
abbrev pub OpenStep : State → Files → Answer → (before after : ℕ) → State → Type 0
OpenStep old found Done before after new =
    (k : ℕ) × (old.floor ≤ k) × (k < length old.history) × Show old.page_size found.db found.log (at old.history k) × (IsTrue old.is_open → k ≡ last old.history) × (new ≡ opened old k)
OpenStep old found (Refused number) before after new = ((number ≡ 14) ⊎ ((number ≡ 15) × HasCause before after)) × (new ≡ gone old)
OpenStep old found _ before after new = ⊥

-- A commit that the disk refuses may be there; the machine is closed.
abbrev pub CommitStep : State → Pages → (size : ℕ) → Answer → (before after : ℕ) → State → Type 0
CommitStep old pages size Done before after new = (commit_refusal old pages size ≡ None) × (new ≡ committed old pages size)
CommitStep old pages size (Refused number) before after new =
    Refuses (commit_refusal old pages size) true (closed (committed old pages size)) before after old number new
CommitStep old pages size _ before after new = ⊥

-- all commits are durable
abbrev pub SyncStep : State → Answer → (before after : ℕ) → State → Type 0
SyncStep old Done before after new = (call_refusal old ≡ None) × (new ≡ synced old)
SyncStep old (Refused number) before after new = Refuses (call_refusal old) false (closed old) before after old number new
SyncStep old _ before after new = ⊥

-- a reader is numbered by how many there were
abbrev pub BeginStep : State → Answer → (before after : ℕ) → State → Type 0
BeginStep old (Reader number) before after new = (call_refusal old ≡ None) × (number ≡ length old.readers) × (new ≡ begun old)
BeginStep old (Refused number) before after new = Refuses (call_refusal old) true (closed old) before after old number new
BeginStep old _ before after new = ⊥

-- by the place that the reader is bound to, if it is open
abbrev pub ReadStep : Option ℕ → State → (number : ℕ) → Answer → (before after : ℕ) → State → Type 0
ReadStep None old number NoReader before after new = new ≡ old
ReadStep None old number _ before after new = ⊥
ReadStep (Some i) old number (Page bytes) before after new = (read_refusal old i number ≡ None) × (bytes ≡ page (at old.history i) number) × (new ≡ old)
ReadStep (Some i) old number (Refused refusal) before after new = Refuses (read_refusal old i number) false old before after old refusal new
ReadStep (Some i) old number _ before after new = ⊥

-- by that place, too
abbrev pub EndStep : Option ℕ → State → (reader : ℕ) → Answer → State → Type 0
EndStep None old reader NoReader new = new ≡ old
EndStep None old reader _ new = ⊥
EndStep (Some i) old reader Done new = new ≡ ended old reader
EndStep (Some i) old reader _ new = ⊥

-- all commits are durable, and it is complete where no reader is behind
abbrev pub CheckpointStep : State → Answer → (before after : ℕ) → State → Type 0
CheckpointStep old Complete before after new = (call_refusal old ≡ None) × IsTrue (all_newest old) × (new ≡ checkpointed old)
CheckpointStep old Partial before after new = (call_refusal old ≡ None) × IsFalse (all_newest old) × (new ≡ checkpointed old)
CheckpointStep old (Refused number) before after new = Refuses (call_refusal old) false (closed old) before after old number new
CheckpointStep old _ before after new = ⊥

-- a log begins anew, in which no pages are committed
abbrev pub RestartStep : State → Answer → (before after : ℕ) → State → Type 0
RestartStep old Done before after new = (restart_refusal old ≡ None) × (new ≡ restarted old)
RestartStep old (Refused number) before after new = Refuses (restart_refusal old) false (closed old) before after old number new
RestartStep old _ before after new = ⊥

-- the table: `before` and `after` count the refused calls of the disk
abbrev pub Step : State → Act → Answer → (before after : ℕ) → State → Type 0
Step old (Opens salts found) answer before after new = OpenStep old found answer before after new
Step old (Commits pages size) answer before after new = CommitStep old pages size answer before after new
Step old Syncs answer before after new = SyncStep old answer before after new
Step old Begins answer before after new = BeginStep old answer before after new
Step old (Reads reader number) answer before after new = ReadStep (reader_at old reader) old number answer before after new
Step old (Ends reader) answer before after new = EndStep (reader_at old reader) old reader answer new
Step old Checkpoints answer before after new = CheckpointStep old answer before after new
Step old (Restarts salt2) answer before after new = RestartStep old answer before after new
Step old (Crashes left) answer before after new = PlainStep (gone old) answer new
Step old Sets answer before after new = PlainStep old answer new
