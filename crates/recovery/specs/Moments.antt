-- What an engine's calls answer in its machine's words, and the moments of a run (own).
use Rattle.std.specs.Prelude.{◌≡◌, ◌⊎◌, ℕ, Bool, IsTrue, Result, Ok, Err}
use Rattle.sqval.specs.Answers.{Answer, Refused, is_accepted, IsShort}
use Rattle.sqval.specs.Runs.{Moment}

-- what a call answers, by a value or by an error that has a number
abbrev pub answered : {T E : Type 0} → (number : E → ℕ) → (T → Answer) → Result T E → Answer
answered number good (Ok value) = good value
answered number good (Err error) = Refused (number error)

-- It is what is expected, or, where that is no refusal, what may stand in its place.
abbrev pub IsExpected : (expected : Answer) (takes_memory needs_disk : Bool) → Answer → (before after : ℕ) → Type 0
IsExpected expected takes_memory needs_disk answer before after =
    (answer ≡ expected) ⊎ (IsTrue (is_accepted expected) × IsShort takes_memory needs_disk answer before after)

-- a moment, where the disk has refused no call
abbrev pub did : {Act : Type 0} → Act → Answer → Moment Act
did act answer = record { act = act; answer = answer; refused = 0 }

-- where it has refused one
abbrev pub then_did : {Act : Type 0} → Act → Answer → Moment Act
then_did act answer = record { act = act; answer = answer; refused = 1 }
