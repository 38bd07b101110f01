-- Which of the files alone a line is of.
use Rattle.std.proofs.Common.{◌≡◌, ℕ, ◌+◌, ◌<◌, ◌≤◌, ◌^◌, List, Bor, Bool, true, false, ◌++◌, map, take, drop, length, get_or, Option, None, Some, sym, ◌∙◌, ap, subst, arith}
use Rattle.std.specs.Prelude.{MatchOption, slice_get, codes}
use Rattle.std.proofs.lemmas.List.{map-append, take-map, drop-map}
use Rattle.std.proofs.lemmas.Option.{slice_get_past, same_Some}
use Rattle.cli_words.specs.Line.{IsNumber}
use Rattle.cli_words.proofs.CommandLineArguments.{at_word, words_long}
use Rattle.cli_each.specs.Lines.{IsOne, command_at}

-- a word, and that there is none
pub word_there : (ws : List (Bor (List ℕ))) (i : ℕ) (word : Bor (List ℕ)) → i < length ws → word ≡ get_or ws i word → slice_get (map (λ w. w.now) ws) i ≡ Some word.now
word_there ws i word within is = at_word ws i word within ∙ ap (λ (w : Bor (List ℕ)). Some w.now) (sym is)

pub none_there : (ws : List (Bor (List ℕ))) (i : ℕ) → length ws ≤ i → slice_get (map (λ w. w.now) ws) i ≡ None
none_there ws i past = slice_get_past (map (λ w. w.now) ws) i (omega (arith, words_long ws))

-- the number behind the word for one file
pub one_numbered : (words : List (List ℕ)) (at : ℕ) (text : List ℕ) (number : Option ℕ) → slice_get words at ≡ Some (codes "--one") → slice_get words (at + 1) ≡ Some text
    → MatchOption number ((n : ℕ) → n < 2 ^ 64 → ¬ IsNumber text n) (IsNumber text) → IsOne words at number
one_numbered words at text (Some n) one is numbered = (one, (text, is, numbered))
one_numbered words at text None one is none = λ _ other that n below numbered.
    none n below (subst (λ (t : List ℕ). IsNumber t n) (same_Some _ _ (sym that ∙ is)) numbered)

-- nothing behind it
pub one_last : (words : List (List ℕ)) (at : ℕ) → slice_get words (at + 1) ≡ None → IsOne words at None
one_last words at none = λ _ text that n below numbered. absurd (cc (none, that))

-- another word
pub one_other : (words : List (List ℕ)) (at : ℕ) → (slice_get words at ≡ Some (codes "--one") → ⊥) → IsOne words at None
one_other words at other = λ one text that n below numbered. absurd (other one)

-- where the command stands behind a number of a file, and behind none
pub behind_one : (starter one : Bool) (at from : ℕ) → at ≡ command_at starter false → one ≡ true → from ≡ at + 2 → from ≡ command_at starter one
behind_one true true at from is one behind = omega arith
behind_one false true at from is one behind = omega arith
behind_one starter false at from is one behind = absurd (cc one)

pub behind_none : (starter one : Bool) (at from : ℕ) → at ≡ command_at starter false → one ≡ false → from ≡ at → from ≡ command_at starter one
behind_none true false at from is one behind = omega arith
behind_none false false at from is one behind = omega arith
behind_none starter true at from is one behind = absurd (cc one)

-- the words that are left of a line
pub rest_of : (ws rest : List (Bor (List ℕ))) (from n : ℕ) → from ≡ n → rest ≡ take 1 ws ++ drop from ws
    → map (λ w. w.now) rest ≡ take 1 (map (λ w. w.now) ws) ++ drop n (map (λ w. w.now) ws)
rest_of ws rest from n same is = ap (map (λ (w : Bor (List ℕ)). w.now)) is ∙ (map-append (λ (w : Bor (List ℕ)). w.now) (take 1 ws) (drop from ws)
    ∙ (ap (λ (l : List (List ℕ)). l ++ map (λ (w : Bor (List ℕ)). w.now) (drop from ws)) (sym (take-map (λ (w : Bor (List ℕ)). w.now) 1 ws))
    ∙ ap (λ (l : List (List ℕ)). take 1 (map (λ (w : Bor (List ℕ)). w.now) ws) ++ l)
    (sym (drop-map (λ (w : Bor (List ℕ)). w.now) from ws) ∙ ap (λ (m : ℕ). drop m (map (λ (w : Bor (List ℕ)). w.now) ws)) same)))
