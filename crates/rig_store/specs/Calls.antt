-- What a trace of a set of files says (own, docs/TRACE.md).
use Rattle.std.specs.Prelude.{◌≡◌, ◌⊎◌, ℕ, ◌+◌, ◌<◌, ◌≤◌, ◌^◌, Bool, true, false, nat_le, cond, List, [], ◌∷◌, length, take, drop, Result, Ok, Err}
use Rattle.rig_play.specs.Trace.{number_at}
use Rattle.rig_play.specs.declared.trace.Kind.{Kind}
use Rattle.rig_play.specs.declared.trace.Kind.TheVariants as kinds
use Rattle.rig_play.specs.declared.trace.Record.{Record}
use Rattle.rig_play.specs.declared.trace.Subject.TheVariants.{Db}
use Rattle.rig_play.specs.declared.trace.TraceError.{TraceError}
use Rattle.rig_play.specs.declared.trace.TraceError.TheVariants.{NotATrace, Damaged, NoMemory}
use Rattle.rig_store.specs.declared.call.Action.{Action}
use Rattle.rig_store.specs.declared.call.Action.TheVariants as actions
use Rattle.rig_store.specs.declared.call.Call.{Call}
use Rattle.rig_store.specs.declared.call.Trace.{Trace}

-- "SQCRTR2" and a newline
abbrev pub HasMagic : List ℕ → Type 0
HasMagic b = take 8 b ≡ 83 ∷ 81 ∷ 67 ∷ 82 ∷ 84 ∷ 82 ∷ 50 ∷ 10 ∷ []

abbrev pub action_number : Action → ℕ
action_number actions.Base = 1
action_number actions.Make = 2
action_number actions.Write = 4
action_number actions.Cut = 5
action_number actions.Sync = 6
action_number actions.Unlink = 7
action_number actions.Rename = 8
action_number actions.FolderSync = 9
action_number actions.Mark = 10
action_number actions.NotHeld = 11
action_number actions.End = 12
action_number actions.Name = 13

-- the records of an action carry bytes
abbrev pub carries : Action → Bool
carries actions.Base = true
carries actions.Write = true
carries actions.Mark = true
carries actions.Name = true
carries _ = false

-- how many bytes a record carries, and those
abbrev pub carried : Call → ℕ
carried c = cond (carries c.action) c.length 0

abbrev pub bytes_of : List ℕ → Call → List ℕ
bytes_of b c = take (carried c) (drop c.from b)

-- the call failed: its answer is below zero
abbrev pub has_failed : Call → Bool
has_failed c = nat_le (2 ^ 63) c.answer

-- the same as a record of this kind, which speaks of a file alone; and one of a file without bytes
abbrev pub record_of : Call → Kind → Record
record_of c kind = record { kind = kind; subject = Db; making = 0; thread = c.thread; answer = c.answer; place = c.place; length = c.length; from = c.from }

abbrev pub empty_file : Call → Record
empty_file c = record (record_of c kinds.Base) { length = 0 }

-- no action has the number that stands at a place
abbrev pub NamesNone : List ℕ → (at : ℕ) → Type 0
NamesNone b at = (a : Action) → action_number a ≡ number_at b at 4 → ⊥

-- a record's numbers are those of the head at a place, and its bytes begin behind that
pub record IsHeadAt (b : List ℕ) (at : ℕ) (c : Call) : Type 0 where
  pub named : action_number c.action ≡ number_at b at 4
  pub file : c.file ≡ number_at b (at + 4) 4
  pub name : c.name ≡ number_at b (at + 8) 4
  pub thread : c.thread ≡ number_at b (at + 12) 4
  pub answer : c.answer ≡ number_at b (at + 16) 8
  pub place : c.place ≡ number_at b (at + 24) 8
  pub long : c.length ≡ number_at b (at + 32) 8
  pub from : c.from ≡ at + 40

-- and its bytes are there
pub record IsCallAt (b : List ℕ) (at : ℕ) (c : Call) : Type 0 where
  pub head : IsHeadAt b at c
  pub within : at + 40 + carried c ≤ length b

-- the record at a place isn't there, or isn't there as a whole
abbrev pub IsCutAt : List ℕ → (at : ℕ) → Type 0
IsCutAt b at = (length b < at + 40) ⊎ ((c : Call) × IsHeadAt b at c × (length b < at + 40 + carried c))

-- the record at a place is none
abbrev pub IsDamagedAt : List ℕ → (at : ℕ) → Type 0
IsDamagedAt b at = (at + 40 ≤ length b) × NamesNone b at

-- records one behind the other, from a place to an end
abbrev pub AreCalls : List ℕ → (at : ℕ) → List Call → (end : ℕ) → Type 0
AreCalls b at [] end = end ≡ at
AreCalls b at (c ∷ calls) end = IsCallAt b at c × AreCalls b (at + 40 + carried c) calls end

-- The records of a trace: all that stand there as a whole.
pub record IsTrace (b : List ℕ) (t : Trace) : Type 0 where
  pub magic : HasMagic b
  pub calls : AreCalls b 8 t.calls.items t.end
  pub rest : IsCutAt b t.end

-- or what refuses it
abbrev pub TraceAnswer : List ℕ → Result Trace TraceError → Type 0
TraceAnswer b (Ok t) = IsTrace b t
TraceAnswer b (Err NotATrace) = ¬ HasMagic b
TraceAnswer b (Err (Damaged place)) = HasMagic b × ((calls : List Call) × AreCalls b 8 calls place × IsDamagedAt b place)
TraceAnswer b (Err NoMemory) = Unit {0}
