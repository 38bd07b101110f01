-- The machine of an engine with a rollback journal: what each call may answer, and what it steps to (own).
use Rattle.std.specs.Prelude.{◌≡◌, ◌⊎◌, ℕ, ◌+◌, ◌-◌, ◌/◌, ◌<◌, ◌≤◌, max, Bool, true, false, cond, not, ◌==◌, nat_lt, nat_le, IsTrue, List, [], ◌∷◌, ◌++◌, length, take, sum_by, Option, Some, None}
use Rattle.sqval.specs.Database.{Database, Pages, page, apply}
use Rattle.sqval.specs.CommitFaults.{first_true, page_faults}
use Rattle.sqval.specs.Answers.{HasCause, Files, Crashed, Answer, Done, Page, Refused, Refuses, PlainStep}
use Rattle.rollcore.specs.Alone.{Show}
use Rattle.rollcore.specs.Refusal.{number_of}
use Rattle.rollcore.specs.declared.error.RollError.TheVariants.{Closed, PageZero, PageAboveSize, NoMemory, Device, NonceMissing}
use Rattle.recovery.specs.Histories.{at, last, newest}

-- what happens
pub data Act : Type 0 where
  -- an opening, with the files that it finds
  Opens : (found : Files) → Act
  Commits : (pages : Pages) → (size : ℕ) → (nonces : List ℕ) → Act
  Reads : (page : ℕ) → Act
  -- a crash, with what it left on a disk that tears
  Crashes : (left : Option Crashed) → Act
  -- a stop or a failure of the disk is set
  Sets : Act

-- the state of the machine
pub record State : Type 0 where
  pub page_size : ℕ
  -- the base, and what each commit made
  pub history : List Database
  -- the place of the last one known to be durable
  pub floor : ℕ
  pub is_open : Bool

-- with the base alone, and closed
abbrev pub start : (page_size : ℕ) → Database → State
start page_size base = record { page_size = page_size; history = base ∷ []; floor = 0; is_open = false }

-- ---- What calls step to.

-- an opening that showed the database at place k
abbrev pub opened : State → (k : ℕ) → State
opened s k = record s { history = take (k + 1) s.history; floor = k; is_open = true }

-- after a crash, an opening that was refused, or a call of the disk that was
abbrev pub closed : State → State
closed s = record s { is_open = false }

-- a commit that isn't known to be durable
abbrev pub appended : State → Pages → (size : ℕ) → State
appended s pages size = record s { history = s.history ++ apply (newest s.history) pages size ∷ [] }

-- and one that is
abbrev pub committed : State → Pages → (size : ℕ) → State
committed s pages size = record s { history = s.history ++ apply (newest s.history) pages size ∷ []; floor = length s.history }

-- ---- Refusals: of each call the first that holds.

-- how many pages of a database of so many are written or cut off: the journal has a record of each
abbrev pub recorded : Pages → (old_size size : ℕ) → ℕ
recorded pages old_size size = sum_by (λ x. cond (nat_le x.0 old_size) 1 0) pages + (old_size - size)

-- the records of a segment, but for the last one
abbrev pub segment_records : ℕ
segment_records = 64

-- the segments of so many records: one at least
abbrev pub segments_of : (records : ℕ) → ℕ
segments_of records = max 1 ((records + 63) / segment_records)

-- what refuses a commit to a database of so many pages: the faults of its pages, and then too few nonces for its segments
abbrev pub refusal_of : (old_size page_size : ℕ) → Pages → (size nonces : ℕ) → Option ℕ
refusal_of old_size page_size pages size nonces =
    first_true (page_faults old_size page_size pages size ++ (nat_lt nonces (segments_of (recorded pages old_size size)), number_of NonceMissing) ∷ [])

abbrev pub commit_refusal : State → Pages → (size : ℕ) → (nonces : List ℕ) → Option ℕ
commit_refusal s pages size nonces = cond s.is_open (refusal_of (length (newest s.history)) s.page_size pages size (length nonces)) (Some (number_of Closed))

abbrev pub read_refusal : State → (number : ℕ) → Option ℕ
read_refusal s number = first_true ((not s.is_open, number_of Closed) ∷ (number == 0, number_of PageZero) ∷ (nat_lt (length (newest s.history)) number, number_of PageAboveSize) ∷ [])

-- ---- Calls, each with its answers. No other answer is given.

-- An opening shows a database of the history, at the floor or later, and the newest where the machine was open. What
-- came after it is gone.
abbrev pub OpenStep : State → Files → Answer → (before after : ℕ) → State → Type 0
OpenStep old found Done before after new =
    (k : ℕ) × (old.floor ≤ k) × (k < length old.history) × Show old.page_size found.db found.log (at old.history k) × (IsTrue old.is_open → k ≡ last old.history) × (new ≡ opened old k)
OpenStep old found (Refused number) before after new = ((number ≡ number_of NoMemory) ⊎ ((number ≡ number_of Device) × HasCause before after)) × (new ≡ closed old)
OpenStep old found _ before after new = ⊥

-- A commit that is done is durable. One that the disk refuses may be there; the machine is closed.
abbrev pub CommitStep : State → Pages → (size : ℕ) → (nonces : List ℕ) → Answer → (before after : ℕ) → State → Type 0
CommitStep old pages size nonces Done before after new = (commit_refusal old pages size nonces ≡ None) × (new ≡ committed old pages size)
CommitStep old pages size nonces (Refused number) before after new =
    Refuses (commit_refusal old pages size nonces) true (closed (appended old pages size)) before after old number new
CommitStep old pages size nonces _ before after new = ⊥

-- a page of the newest database
abbrev pub ReadStep : State → (number : ℕ) → Answer → (before after : ℕ) → State → Type 0
ReadStep old number (Page bytes) before after new = (read_refusal old number ≡ None) × (bytes ≡ page (newest old.history) number) × (new ≡ old)
ReadStep old number (Refused refusal) before after new = Refuses (read_refusal old number) false old before after old refusal new
ReadStep old number _ before after new = ⊥

-- the table: `before` and `after` count the refused calls of the disk
abbrev pub Step : State → Act → Answer → (before after : ℕ) → State → Type 0
Step old (Opens found) answer before after new = OpenStep old found answer before after new
Step old (Commits pages size nonces) answer before after new = CommitStep old pages size nonces answer before after new
Step old (Reads number) answer before after new = ReadStep old number answer before after new
Step old (Crashes left) answer before after new = PlainStep (closed old) answer new
Step old Sets answer before after new = PlainStep old answer new
