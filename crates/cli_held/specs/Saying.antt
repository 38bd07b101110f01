-- Which words of a command line say how SQLite's locks are taken, and what is left without them (own).
use Rattle.std.specs.Prelude.{◌≡◌, ◌≢◌, ◌⊎◌, ℕ, zero, suc, ◌+◌, ◌-◌, ◌^◌, ◌<◌, cond, is_some, true, Bool, List, [], ◌∷◌, ◌++◌, length, slice_get, codes, Option, Some, None}
use Rattle.cli_words.specs.Line.{IsNumber, TakesValue}
use Rattle.cli_held.specs.declared.line.Line.{Line}
use Rattle.cli_held.specs.Todo.{texts}

-- a word behind the command, which stands at a place, that isn't the value of the option before it
pub record IsOpen (words : List (List ℕ)) (command i : ℕ) : Type 0 where
  pub behind : command < i
  pub own : (before : List ℕ) → slice_get words (i - 1) ≡ Some before → ¬ TakesValue before

-- such a word may say how locks are taken where no "--" that is one stands before it
abbrev pub IsBeforeDashes : (words : List (List ℕ)) → (command i : ℕ) → Type 0
IsBeforeDashes words command i = (j : ℕ) → j < i → IsOpen words command j → slice_get words j ≢ Some (codes "--")

abbrev pub MaySay : (words : List (List ℕ)) → (command i : ℕ) → Type 0
MaySay words command i = IsOpen words command i × IsBeforeDashes words command i

-- a text is so many seconds
abbrev pub AreSeconds : (text : List ℕ) → (n : ℕ) → Type 0
AreSeconds text n = (n < 2 ^ 32) × IsNumber text n

-- the word at a place gives so many: by itself, or by the word behind it
abbrev pub GivesAlone : (words : List (List ℕ)) → (i n : ℕ) → Type 0
GivesAlone words i n = (text : List ℕ) × (slice_get words i ≡ Some (codes "--wait=" ++ text)) × AreSeconds text n

abbrev pub GivesBehind : (words : List (List ℕ)) → (i n : ℕ) → Type 0
GivesBehind words i n = (slice_get words i ≡ Some (codes "--wait")) × ((text : List ℕ) × (slice_get words (i + 1) ≡ Some text) × AreSeconds text n)

-- it says for how many seconds locks are waited for
abbrev pub Waits : (words : List (List ℕ)) → (command i n : ℕ) → Type 0
Waits words command i n = MaySay words command i × (GivesAlone words i n ⊎ GivesBehind words i n)

-- it says that none are to be taken
abbrev pub SaysNone : (words : List (List ℕ)) → (command i : ℕ) → Type 0
SaysNone words command i = MaySay words command i × (slice_get words i ≡ Some (codes "--no-lock"))

-- it is the number behind a "--wait"
abbrev pub IsWaitValue : (words : List (List ℕ)) → (command i : ℕ) → Type 0
IsWaitValue words command i = (j : ℕ) × (i ≡ j + 1) × (n : ℕ) × MaySay words command j × GivesBehind words j n

-- it isn't left: it stands between the program's name and the command, or says how locks are taken
abbrev pub IsTakenOut : (words : List (List ℕ)) → (command i : ℕ) → Type 0
IsTakenOut words command i =
    ((0 < i) × (i < command)) ⊎ (SaysNone words command i ⊎ (((n : ℕ) × Waits words command i n) ⊎ IsWaitValue words command i))

-- of the first words, so many, these are left
abbrev pub AreRest : (words : List (List ℕ)) → (command n : ℕ) → (left : List (List ℕ)) → Type 0
AreRest words command zero left = left ≡ []
AreRest words command (suc n) left =
    ((first : List (List ℕ)) × (word : List ℕ) × AreRest words command n first × (slice_get words n ≡ Some word)
    × (¬ IsTakenOut words command n) × (left ≡ first ++ word ∷ []))
    ⊎ (AreRest words command n left × IsTakenOut words command n)

-- of the first words, so many, the last one that says so says for how many seconds locks are waited for; none says it
abbrev pub IsWait : (words : List (List ℕ)) → (command n : ℕ) → Option ℕ → Type 0
IsWait words command n (Some seconds) =
    (i : ℕ) × (i < n) × Waits words command i seconds × ((j : ℕ) → i < j → j < n → (other : ℕ) → ¬ Waits words command j other)
IsWait words command n None = (j : ℕ) → j < n → (other : ℕ) → ¬ Waits words command j other

-- where the command stands: behind two words of whoever starts the program, if they are there
abbrev pub command_at : (is_hidden : Bool) → ℕ
command_at is_hidden = cond is_hidden 3 1

-- The line without the words that say how locks are taken, and what these say.
pub record IsTakenApart (words : List (List ℕ)) (line : Line) : Type 0 where
  pub left : AreRest words (command_at (is_some line.hidden)) (length words) (texts line.words.items)
  pub wait : IsWait words (command_at (is_some line.hidden)) (length words) line.wait
  pub unlocked : line.is_unlocked ≡ true → (i : ℕ) × SaysNone words (command_at (is_some line.hidden)) i
  pub locked : ((i : ℕ) × SaysNone words (command_at (is_some line.hidden)) i) → line.is_unlocked ≡ true
