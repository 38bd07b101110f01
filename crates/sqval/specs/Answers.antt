-- What the calls of an engine answer, and when they are refused (own).
use Rattle.std.specs.Prelude.{◌≡◌, ◌⊎◌, ℕ, ◌-◌, ◌^◌, ◌<◌, IsTrue, Bool, true, false, List, Option, Some, None}

-- the bytes of both files
pub record Files : Type 0 where
  pub db : List ℕ
  pub log : List ℕ

-- What a crash left of the log of a disk that tears; and the log's bytes when it had nothing unsynced last, and place and
-- bytes of each write on it since.
pub record Crashed : Type 0 where
  pub log : List ℕ
  pub kept : List ℕ
  pub handed : List (ℕ × List ℕ)

-- what a call of an engine answers; a refusal by its number
pub data Answer : Type 0 where
  Done : Answer
  Reader : (number : ℕ) → Answer
  Page : (bytes : List ℕ) → Answer
  Complete : Answer
  Partial : Answer
  NoReader : Answer
  Refused : (number : ℕ) → Answer

-- between these two counts a call of the disk was refused, or there were so many that the count stands at its greatest
abbrev pub HasCause : (before after : ℕ) → Type 0
HasCause before after = (before < after) ⊎ (after ≡ 2 ^ 64 - 1)

-- A call answers this number: the first refusal that holds. Where none does, 14 in place of what it would answer, if it
-- takes memory; or 15. Only 15 steps.
abbrev pub Refuses : {S : Type 0} → Option ℕ → (takes_memory : Bool) → (failed : S) → (before after : ℕ) → S → (number : ℕ) → S → Type 0
Refuses (Some first) takes_memory failed before after old number new = (number ≡ first) × (new ≡ old)
Refuses None takes_memory failed before after old number new =
    (IsTrue takes_memory × (number ≡ 14) × (new ≡ old)) ⊎ ((number ≡ 15) × HasCause before after × (new ≡ failed))

-- what is no call of an engine is always done
abbrev pub PlainStep : {S : Type 0} → (target : S) → Answer → S → Type 0
PlainStep target Done new = new ≡ target
PlainStep target _ new = ⊥

-- ---- What is answered where memory is ample and the disk refuses no call, and what may stand in its place.

-- the refusal of this number, if there is one, otherwise the answer
abbrev pub told : Option ℕ → Answer → Answer
told (Some number) answer = Refused number
told None answer = answer

-- neither a refusal nor the want of a reader
abbrev pub is_accepted : Answer → Bool
is_accepted NoReader = false
is_accepted (Refused number) = false
is_accepted _ = true

-- want of memory, or a refused call of the disk that has a cause
abbrev pub IsShort : (takes_memory needs_disk : Bool) → Answer → (before after : ℕ) → Type 0
IsShort takes_memory needs_disk answer before after =
    (IsTrue takes_memory × (answer ≡ Refused 14)) ⊎ (IsTrue needs_disk × (answer ≡ Refused 15) × HasCause before after)
