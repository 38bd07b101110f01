-- Command lines that name several files (own).
use Rattle.std.specs.Prelude.{◌≡◌, ◌≢◌, ◌⊎◌, ℕ, zero, suc, ◌+◌, ◌-◌, ◌^◌, ◌<◌, ◌≤◌, cond, is_some, Bool, false, List, [], ◌∷◌, ◌++◌, map, take, drop, length, slice_get, codes, Option, Some, None}
use Rattle.std.specs.Borrow.{Bor}
use Rattle.std.specs.List.{Contains}
use Rattle.cli_words.specs.Line.{IsNumber, IsPlain, TakesValue as TakesOwnValue}
use Rattle.cli_each.specs.declared.apart.Apart.{Apart}

abbrev pub texts : List (Bor (List ℕ)) → List (List ℕ)
texts words = map (λ w. w.now) words

-- a word behind which a value stands
abbrev pub TakesValue : (word : List ℕ) → Type 0
TakesValue word = TakesOwnValue word ⊎ (word ≡ codes "--wait")

-- a word behind the command that stands for itself: behind a "--", or else no option and no option's value
pub record IsFree (words : List (List ℕ)) (i : ℕ) (word : List ℕ) : Type 0 where
  pub behind : 2 ≤ i
  pub is : slice_get words i ≡ Some word
  pub free : Contains (drop 2 (take i words)) (codes "--")
      ⊎ (IsPlain word × ((before : List ℕ) → slice_get words (i - 1) ≡ Some before → ¬ TakesValue before))

-- the places of those among the first words, so many, in their order
abbrev pub AreFree : (words : List (List ℕ)) → (n : ℕ) → (places : List ℕ) → Type 0
AreFree words zero places = places ≡ []
AreFree words (suc n) places =
    ((first : List ℕ) × (word : List ℕ) × AreFree words n first × IsFree words n word × (places ≡ first ++ n ∷ []))
    ⊎ (AreFree words n places × ((word : List ℕ) → ¬ IsFree words n word))

-- a command that takes several files
abbrev pub IsOfSeveral : (command : List ℕ) → Type 0
IsOfSeveral command = (command ≡ codes "check") ⊎ (command ≡ codes "show")

-- the line is of such a command
abbrev pub TakesSeveral : (words : List (List ℕ)) → Type 0
TakesSeveral words = (command : List ℕ) × (slice_get words 1 ≡ Some command) × IsOfSeveral command

-- the places of the files that it names; none where it is another command
abbrev pub AreFiles : (words : List (List ℕ)) → (places : List ℕ) → Type 0
AreFiles words places = (TakesSeveral words × AreFree words (length words) places) ⊎ ((¬ TakesSeveral words) × (places ≡ []))

-- Of the first words, so many, these are left: the one at this place, and all that don't stand for themselves.
abbrev pub AreLeft : (words : List (List ℕ)) → (place n : ℕ) → (left : List (List ℕ)) → Type 0
AreLeft words place zero left = left ≡ []
AreLeft words place (suc n) left =
    ((first : List (List ℕ)) × (word : List ℕ) × AreLeft words place n first × (slice_get words n ≡ Some word)
    × ((n ≡ place) ⊎ ¬ IsFree words n word) × (left ≡ first ++ word ∷ []))
    ⊎ (AreLeft words place n left × (n ≢ place) × ((word : List ℕ) × IsFree words n word))

-- what whoever starts the program says before the command: one of three words, and another
abbrev pub IsStarter : (words : List (List ℕ)) → Option (Bor (List ℕ) × Bor (List ℕ)) → Type 0
IsStarter words None = (word : List ℕ) → slice_get words 2 ≡ Some word → (slice_get words 1 ≢ Some (codes "--locks")) × (slice_get words 1 ≢ Some (codes "--held")) × (slice_get words 1 ≢ Some (codes "--refused"))
IsStarter words (Some said) = (slice_get words 1 ≡ Some said.0.now) × (slice_get words 2 ≡ Some said.1.now)
    × ((said.0.now ≡ codes "--locks") ⊎ (said.0.now ≡ codes "--held") ⊎ (said.0.now ≡ codes "--refused"))

-- where the command stands behind these, and behind the number of a file
abbrev pub command_at : (has_starter has_one : Bool) → ℕ
command_at has_starter has_one = 1 + (cond has_starter 2 0 + cond has_one 2 0)

-- which of the files is meant: where the word at this place is the one for that, the number behind it, if a machine word holds it
abbrev pub IsOne : (words : List (List ℕ)) → (at : ℕ) → (one : Option ℕ) → Type 0
IsOne words at (Some number) = (slice_get words at ≡ Some (codes "--one")) × ((text : List ℕ) × (slice_get words (at + 1) ≡ Some text) × IsNumber text number)
IsOne words at None = slice_get words at ≡ Some (codes "--one")
    → (text : List ℕ) → slice_get words (at + 1) ≡ Some text → (number : ℕ) → number < 2 ^ 64 → ¬ IsNumber text number

-- The line is taken apart: what its starter says, which of its files alone is meant, and all other words.
pub record IsApart (words : List (List ℕ)) (apart : Apart) : Type 0 where
  pub starter : IsStarter words apart.starter
  pub one : IsOne words (command_at (is_some apart.starter) false) apart.one
  pub rest : texts apart.words.items ≡ take 1 words ++ drop (command_at (is_some apart.starter) (is_some apart.one)) words
