-- What a caller did, and what it may be asked to do next (own; the order of the locks is that of SQLite's wal.c and
-- os_unix.c, and RESERVED isn't among them: it is only asked about).
use Rattle.std.specs.Prelude.{◌≡◌, ◌⊎◌, ℕ, ◌==◌, Bool, List, [], ◌∷◌, if◌then◌else◌}
use Rattle.sqlocks.specs.declared.plan.Want.{Want}
use Rattle.sqlocks.specs.declared.plan.Want.TheVariants.{Read, Recover}
use Rattle.sqlocks.specs.declared.plan.Target.TheVariants.{Database, Index}
use Rattle.sqlocks.specs.declared.plan.Lock.{Lock}
use Rattle.sqlocks.specs.declared.plan.Lock.TheVariants.{Pending, Shared, Exclusive, Restarts, Checkpoints, Writers, Connections, WholeIndex, Alone}
use Rattle.sqlocks.specs.declared.plan.Step.{Step}
use Rattle.sqlocks.specs.declared.plan.Step.TheVariants.{Open, Take, Give, Compare, LookForFolder, Look, LookAtJournal, AskReserved, CompareJournal, Wait, Go, GoUnlocked, GiveUp, End}
use Rattle.sqlocks.specs.declared.plan.Answer.{Answer}
use Rattle.sqlocks.specs.declared.plan.Answer.TheVariants.{Given, Refused, Missing, Unsupported}
use Rattle.sqlocks.specs.declared.places.Place.{Place}
use Rattle.sqlocks.specs.declared.places.Place.TheVariants.{OpenFile}
use Rattle.sqlocks.specs.Places.{step_at, next}

-- a step, and what it came to
pub record Event : Type 0 where
  pub step : Step
  pub answer : Answer

abbrev pub number : Lock → ℕ
number Pending = 0
number Shared = 1
number Exclusive = 2
number Restarts = 3
number Checkpoints = 4
number Writers = 5
number Connections = 6
number WholeIndex = 7
number Alone = 8

-- without the first one that is this lock
abbrev pub without : Lock → List Lock → List Lock
without lock [] = []
without lock (first ∷ rest) = if number first == number lock then rest else first ∷ without lock rest

-- the locks that are held behind a step, the last one first
abbrev pub held_behind : Step → Answer → List Lock → List Lock
held_behind (Take lock) Given held = lock ∷ held
held_behind (Take lock) Refused held = held
held_behind (Take lock) Missing held = held
held_behind (Take lock) Unsupported held = held
held_behind (Give lock) answer held = without lock held
held_behind _ answer held = held

-- the same behind a run, whose last event stands first
abbrev pub held_after : List Event → List Lock
held_after [] = []
held_after (event ∷ log) = held_behind event.step event.answer (held_after log)

-- What was learnt by the last step that wasn't one of giving back: FILE can't be opened; there is no FILE-shm; its locks
-- can't be had; no folder FILE.lock is there; the index names a front of FILE-wal; FILE-journal is hot; it is, and nobody
-- holds RESERVED; it is current; or no journal is. A hot journal is current where nobody holds RESERVED behind the look at it, and it is as it was then:
-- who is about to write holds RESERVED, and has written nothing to FILE while others hold SHARED.
pub data Learnt : Type 0 where
  NoFile : Learnt
  NoIndex : Learnt
  NoLocks : Learnt
  NoFolder : Learnt
  Front : Learnt
  Hot : Learnt
  Free : Learnt
  Current : Learnt
  NoneCurrent : Learnt
  Nothing : Learnt

-- what is known of that once a lock is given: Alone tells what was learnt of a journal
abbrev pub learnt_with : Lock → Learnt → Learnt
learnt_with Alone learnt = learnt
learnt_with _ learnt = Nothing

abbrev pub learnt_behind : Step → Answer → Learnt → Learnt
learnt_behind (Open Database) Given learnt = Nothing
learnt_behind (Open Database) _ learnt = NoFile
learnt_behind (Open Index) Missing learnt = NoIndex
learnt_behind (Open Index) Unsupported learnt = NoLocks
learnt_behind (Take lock) Unsupported learnt = NoLocks
learnt_behind LookForFolder Given learnt = NoFolder
learnt_behind LookForFolder Unsupported learnt = NoLocks
learnt_behind Look Given learnt = Front
learnt_behind LookAtJournal Given learnt = Hot
learnt_behind LookAtJournal _ learnt = NoneCurrent
learnt_behind AskReserved Given learnt = Free
learnt_behind AskReserved Unsupported learnt = NoLocks
learnt_behind AskReserved _ learnt = NoneCurrent
learnt_behind CompareJournal Given learnt = Current
learnt_behind CompareJournal _ learnt = NoneCurrent
learnt_behind (Take lock) Given learnt = learnt_with lock learnt
learnt_behind (Give lock) answer learnt = learnt
learnt_behind _ answer learnt = Nothing

abbrev pub learnt_after : List Event → Learnt
learnt_after [] = Nothing
learnt_after (event ∷ log) = learnt_behind event.step event.answer (learnt_after log)

-- the lock of FILE, which is held before any of FILE-shm; and a reader's locks where there is a FILE-shm
abbrev pub own : Want → List Lock
own Read = Shared ∷ []
own Recover = Exclusive ∷ []

abbrev pub snapshot : List Lock
snapshot = Checkpoints ∷ Restarts ∷ Shared ∷ []

-- what is held when a lock is asked for, the last one first
abbrev pub MayTake : Want → Lock → (held : List Lock) → Type 0
MayTake Read Pending held = held ≡ []
MayTake Read Shared held = held ≡ Pending ∷ []
MayTake Read Restarts held = held ≡ Shared ∷ []
MayTake Read Checkpoints held = held ≡ Restarts ∷ Shared ∷ []
MayTake Read Writers held = held ≡ snapshot
MayTake Read Connections held = (held ≡ snapshot) ⊎ (held ≡ Writers ∷ snapshot)
MayTake Read Alone held = held ≡ Shared ∷ []
MayTake Recover Exclusive held = held ≡ []
MayTake Recover WholeIndex held = held ≡ Exclusive ∷ []
MayTake want lock held = ⊥

-- a lock is given back that was taken last, or Pending behind Shared
abbrev pub MayGive : Lock → (held : List Lock) → Type 0
MayGive lock held = ((rest : List Lock) × (held ≡ lock ∷ rest)) ⊎ ((lock ≡ Pending) × (held ≡ Shared ∷ Pending ∷ []))

-- The locks for which all was done. A reader that doesn't hold Writers takes the front that the index names, and there is
-- one; where it holds them, the front of FILE-wal by itself. Beside no FILE-shm a journal is current for one that holds
-- Shared by itself, and none is for one that holds Alone.
abbrev pub HoldsAll : Want → Learnt → (held : List Lock) → Type 0
HoldsAll Read NoIndex held = ⊥
HoldsAll Read Current held = held ≡ Shared ∷ []
HoldsAll Read NoneCurrent held = held ≡ Alone ∷ Shared ∷ []
HoldsAll Read Front held = held ≡ snapshot
HoldsAll Read learnt held = held ≡ Writers ∷ snapshot
HoldsAll Recover NoIndex held = held ≡ Exclusive ∷ []
HoldsAll Recover learnt held = held ≡ WholeIndex ∷ Exclusive ∷ []

-- without locks: where FILE can't be opened, and a reader where there are none
abbrev pub MayBeUnlocked : Want → Learnt → Type 0
MayBeUnlocked want NoFile = Unit {0}
MayBeUnlocked want NoLocks = want ≡ Read
MayBeUnlocked want learnt = ⊥

-- a recovery goes on only beside no folder FILE.lock
abbrev pub MayGoOn : Want → Learnt → Type 0
MayGoOn Read learnt = Unit {0}
MayGoOn Recover learnt = learnt ≡ NoFolder

-- what may be asked of a caller that holds these and learnt that
abbrev pub MayBeAsked : Want → (held : List Lock) → Learnt → Step → Type 0
MayBeAsked want held learnt (Open Database) = held ≡ []
MayBeAsked want held learnt (Open Index) = (held ≡ own want) × MayGoOn want learnt
MayBeAsked want held learnt (Take Alone) = MayTake want Alone held × (learnt ≡ NoneCurrent)
MayBeAsked want held learnt (Take lock) = MayTake want lock held
MayBeAsked want held learnt (Give lock) = MayGive lock held
MayBeAsked want held learnt Compare = held ≡ own want
MayBeAsked want held learnt LookForFolder = held ≡ own want
MayBeAsked want held learnt Look = (held ≡ snapshot) ⊎ (held ≡ Writers ∷ snapshot)
MayBeAsked want held learnt LookAtJournal = (held ≡ Shared ∷ []) × (learnt ≡ NoIndex)
MayBeAsked want held learnt AskReserved = (held ≡ Shared ∷ []) × (learnt ≡ Hot)
MayBeAsked want held learnt CompareJournal = (held ≡ Shared ∷ []) × (learnt ≡ Free)
MayBeAsked want held learnt Wait = held ≡ []
MayBeAsked want held learnt Go = HoldsAll want learnt held
MayBeAsked want held learnt GoUnlocked = (held ≡ []) × MayBeUnlocked want learnt
MayBeAsked want held learnt (GiveUp reason) = held ≡ []
MayBeAsked want held learnt End = held ≡ []

abbrev pub MayAsk : Want → List Event → Step → Type 0
MayAsk want log step = MayBeAsked want (held_after log) (learnt_after log) step

-- each step was one that might be asked behind those before it
abbrev pub IsRun : Want → List Event → Type 0
IsRun want [] = Unit {0}
IsRun want (event ∷ log) = MayAsk want log event.step × IsRun want log

-- the steps that come to these answers, the last one first, from a place on
abbrev pub log_from : Place → List Answer → List Event → List Event
log_from place [] log = log
log_from place (answer ∷ answers) log = log_from (next place answer) answers (record { step = step_at place; answer = answer } ∷ log)

abbrev pub log_of : Want → List Answer → List Event
log_of want answers = log_from (OpenFile want) answers []
