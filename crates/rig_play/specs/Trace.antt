-- What a trace says (own, docs/TRACE.md).
use Rattle.std.specs.Prelude.{◌≡◌, ◌⊎◌, ℕ, ◌+◌, ◌<◌, ◌≤◌, ◌^◌, Bool, true, false, ◌||◌, IsTrue, nat_le, cond, List, [], ◌∷◌, length, take, drop, Result, Ok, Err}
use Rattle.byteorder.specs.Endian.{little_number}
use Rattle.rig_play.specs.declared.trace.Kind.{Kind}
use Rattle.rig_play.specs.declared.trace.Kind.TheVariants as kinds
use Rattle.rig_play.specs.declared.trace.Subject.{Subject}
use Rattle.rig_play.specs.declared.trace.Subject.TheVariants as subjects
use Rattle.rig_play.specs.declared.trace.Record.{Record}
use Rattle.rig_play.specs.declared.trace.Trace.{Trace}
use Rattle.rig_play.specs.declared.trace.TraceError.{TraceError}
use Rattle.rig_play.specs.declared.trace.TraceError.TheVariants.{NotATrace, Damaged, NoMemory}

-- the number of n bytes at a place, the lowest first
unfoldable pub number_at : List ℕ → (at n : ℕ) → ℕ
number_at b at n = little_number n (drop at b)

-- "SQCRTR1" and a newline
abbrev pub HasMagic : List ℕ → Type 0
HasMagic b = take 8 b ≡ 83 ∷ 81 ∷ 67 ∷ 82 ∷ 84 ∷ 82 ∷ 49 ∷ 10 ∷ []

abbrev pub kind_number : Kind → ℕ
kind_number kinds.Base = 1
kind_number kinds.Open = 2
kind_number kinds.Close = 3
kind_number kinds.Write = 4
kind_number kinds.Cut = 5
kind_number kinds.Sync = 6
kind_number kinds.Unlink = 7
kind_number kinds.Rename = 8
kind_number kinds.FolderSync = 9
kind_number kinds.Mark = 10
kind_number kinds.NotHeld = 11
kind_number kinds.End = 12

abbrev pub subject_number : Subject → ℕ
subject_number subjects.Db = 0
subject_number subjects.Wal = 1
subject_number subjects.Journal = 2
subject_number subjects.Folder = 3
subject_number subjects.Marks = 4
subject_number subjects.Other = 255

abbrev pub is_file : Subject → Bool
is_file subjects.Db = true
is_file subjects.Wal = true
is_file subjects.Journal = true
is_file _ = false

abbrev pub is_folder : Subject → Bool
is_folder subjects.Folder = true
is_folder _ = false

abbrev pub is_marks : Subject → Bool
is_marks subjects.Marks = true
is_marks _ = false

abbrev pub is_other : Subject → Bool
is_other subjects.Other = true
is_other _ = false

-- what the records of a kind speak of
abbrev pub speaks_of : Kind → Subject → Bool
speaks_of kinds.FolderSync s = is_folder s
speaks_of kinds.Mark s = is_marks s
speaks_of kinds.Rename s = is_file s || is_other s
speaks_of _ s = is_file s

-- the records of a kind carry bytes
abbrev pub carries : Kind → Bool
carries kinds.Base = true
carries kinds.Write = true
carries kinds.Mark = true
carries _ = false

-- how many bytes a record carries, and those
abbrev pub carried : Record → ℕ
carried r = cond (carries r.kind) r.length 0

abbrev pub bytes_of : List ℕ → Record → List ℕ
bytes_of b r = take (carried r) (drop r.from b)

-- the call failed: its answer is below zero
abbrev pub has_failed : Record → Bool
has_failed r = nat_le (2 ^ 63) r.answer

-- the head at a place has the numbers of a kind, and of something that it speaks of
pub record IsNamed (b : List ℕ) (at : ℕ) (k : Kind) (s : Subject) : Type 0 where
  pub kind : kind_number k ≡ number_at b at 4
  pub subject : subject_number s ≡ number_at b (at + 4) 4
  pub speaks : IsTrue (speaks_of k s)

abbrev pub NamesNone : List ℕ → (at : ℕ) → Type 0
NamesNone b at = (k : Kind) (s : Subject) → ¬ IsNamed b at k s

-- a record's numbers are those of the head at a place, and its bytes begin behind that
pub record IsHeadAt (b : List ℕ) (at : ℕ) (r : Record) : Type 0 where
  pub named : IsNamed b at r.kind r.subject
  pub making : r.making ≡ number_at b (at + 8) 4
  pub thread : r.thread ≡ number_at b (at + 12) 4
  pub answer : r.answer ≡ number_at b (at + 16) 8
  pub place : r.place ≡ number_at b (at + 24) 8
  pub long : r.length ≡ number_at b (at + 32) 8
  pub from : r.from ≡ at + 40

-- and its bytes are there
pub record IsRecordAt (b : List ℕ) (at : ℕ) (r : Record) : Type 0 where
  pub head : IsHeadAt b at r
  pub within : at + 40 + carried r ≤ length b

-- the record at a place isn't there, or isn't there as a whole
abbrev pub IsCutAt : List ℕ → (at : ℕ) → Type 0
IsCutAt b at = (length b < at + 40) ⊎ ((r : Record) × IsHeadAt b at r × (length b < at + 40 + carried r))

-- the record at a place is none
abbrev pub IsDamagedAt : List ℕ → (at : ℕ) → Type 0
IsDamagedAt b at = (at + 40 ≤ length b) × NamesNone b at

-- records one behind the other, from a place to an end
abbrev pub AreRecords : List ℕ → (at : ℕ) → List Record → (end : ℕ) → Type 0
AreRecords b at [] end = end ≡ at
AreRecords b at (r ∷ records) end = IsRecordAt b at r × AreRecords b (at + 40 + carried r) records end

-- The records of a trace: all that stand there as a whole.
pub record IsTrace (b : List ℕ) (t : Trace) : Type 0 where
  pub magic : HasMagic b
  pub records : AreRecords b 8 t.records.items t.end
  pub rest : IsCutAt b t.end

-- or what refuses it
abbrev pub TraceAnswer : List ℕ → Result Trace TraceError → Type 0
TraceAnswer b (Ok t) = IsTrace b t
TraceAnswer b (Err NotATrace) = ¬ HasMagic b
TraceAnswer b (Err (Damaged place)) = HasMagic b × ((records : List Record) × AreRecords b 8 records place × IsDamagedAt b place)
TraceAnswer b (Err NoMemory) = Unit {0}
