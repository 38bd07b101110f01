-- What single words say of how locks are taken (own).
use Rattle.std.specs.Prelude.{◌≡◌, ◌≢◌, ℕ, ◌<◌, true, false, List, Some, None, IsTrue, codes, slice_get, take}
use Rattle.std.specs.List.{Contains}
use Rattle.cli_words.specs.Line.{IsNamed}
use Rattle.cli_held.specs.declared.line.Rest.{Rest}
use Rattle.cli_held.specs.declared.line.Said.{Said}
use Rattle.cli_held.specs.declared.line.Said.TheVariants.{Nothing, Unlocked, Wait, WaitBehind}
use Rattle.cli_held.specs.Todo.{texts, SaysNothing}
use Rattle.cli_held.specs.Saying.{AreRest, IsBeforeDashes, IsOpen, IsWait, IsWaitValue, GivesAlone, GivesBehind, MaySay, SaysNone}

-- one of the words says this
abbrev pub IsSaid : (words : List (List ℕ)) → Said → Type 0
IsSaid words Nothing = Unit {0}
IsSaid words Unlocked = Contains words (codes "--no-lock")
IsSaid words (Wait seconds) = (word : List ℕ) × Contains words word × IsNamed (codes "--wait") word
IsSaid words (WaitBehind seconds) = (word : List ℕ) × Contains words word × IsNamed (codes "--wait") word

-- what is left of the words before one, of which the first ones say nothing of locks, and what those say
pub record IsRest (words : List (List ℕ)) (from i : ℕ) (rest : Rest) : Type 0 where
  pub only : (word : List ℕ) → Contains (texts rest.words.items) word → Contains words word
  pub unlocked : IsTrue rest.is_unlocked → Contains words (codes "--no-lock")
  pub plain : from ≡ 1 → SaysNothing words → (texts rest.words.items ≡ take i words) × (rest.wait ≡ None) × (rest.is_unlocked ≡ false) × (rest.is_taken ≡ false)

-- the word at a place says this, where it may say something
abbrev pub IsSaidAt : (words : List (List ℕ)) → (i : ℕ) → Said → Type 0
IsSaidAt words i Nothing = (slice_get words i ≢ Some (codes "--no-lock")) × ((n : ℕ) → ¬ GivesAlone words i n) × ((n : ℕ) → ¬ GivesBehind words i n)
IsSaidAt words i Unlocked = slice_get words i ≡ Some (codes "--no-lock")
IsSaidAt words i (Wait seconds) = GivesAlone words i seconds
IsSaidAt words i (WaitBehind seconds) = GivesBehind words i seconds

-- what the words before one say, and what is left of them
pub record IsSoFar (words : List (List ℕ)) (command i : ℕ) (rest : Rest) : Type 0 where
  pub left : AreRest words command i (texts rest.words.items)
  pub wait : IsWait words command i rest.wait
  pub unlocked : rest.is_unlocked ≡ true → (j : ℕ) × (j < i) × SaysNone words command j
  pub locked : rest.is_unlocked ≡ false → (j : ℕ) → j < i → ¬ SaysNone words command j
  pub over : rest.is_over ≡ true → (j : ℕ) × (j < i) × IsOpen words command j × (slice_get words j ≡ Some (codes "--"))
  pub unended : rest.is_over ≡ false → IsBeforeDashes words command i
  pub taken : rest.is_taken ≡ true → IsWaitValue words command i
  pub free : rest.is_taken ≡ false → ¬ IsWaitValue words command i

-- the word at a place may say something, and whether it is a "--" is known
pub record MayTell (words : List (List ℕ)) (command i : ℕ) (rest : Rest) : Type 0 where
  pub left : AreRest words command i (texts rest.words.items)
  pub wait : IsWait words command i rest.wait
  pub unlocked : rest.is_unlocked ≡ true → (j : ℕ) × (j < i) × SaysNone words command j
  pub locked : rest.is_unlocked ≡ false → (j : ℕ) → j < i → ¬ SaysNone words command j
  pub may : MaySay words command i
  pub over : rest.is_over ≡ true → slice_get words i ≡ Some (codes "--")
  pub unended : rest.is_over ≡ false → slice_get words i ≢ Some (codes "--")
  pub fresh : rest.is_taken ≡ false
  pub free : ¬ IsWaitValue words command i
