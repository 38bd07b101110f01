-- Words that stand for themselves.
use Rattle.std.proofs.Common.{◌≡◌, ◌≢◌, ◌⊎◌, inl, inr, ⊎_elim, ℕ, ◌+◌, ◌-◌, ◌<◌, ◌≤◌, List, [], ◌∷◌, Bor, ◌++◌, map, length, drop, take, get_or, sym, refl, ◌∙◌, ap, subst, arith, add-one}
use Rattle.std.specs.Prelude.{Some, slice_get, codes}
use Rattle.std.specs.List.{Contains}
use Rattle.std.proofs.lemmas.List.{map-append}
use Rattle.cli_words.specs.Line.{IsPlain}
use Rattle.cli_words.proofs.CommandLineArguments.{at_word, is_word, options_are}
use Rattle.cli_each.specs.Lines.{AreFree, AreLeft, IsFree, TakesValue, texts}

module _ (ws : List (Bor (List ℕ))) (i : ℕ) (two : 2 ≤ i) (lt : i < length ws) where
  pub free_behind : Contains (map (λ w. w.now) (take (i - 2) (drop 2 ws))) (codes "--") → (word : List ℕ) → slice_get (map (λ w. w.now) ws) i ≡ Some word → IsFree (map (λ w. w.now) ws) i word
  free_behind there word is = record {
    behind = two;
    is = is;
    free = inl (rw (← options_are ws 2 i refl two) there);
  }

  pub free_plain : (d e : Bor (List ℕ)) → IsPlain (get_or ws i d).now → ¬ TakesValue (get_or ws (i - 1) e).now → (word : List ℕ)
      → slice_get (map (λ w. w.now) ws) i ≡ Some word → IsFree (map (λ w. w.now) ws) i word
  free_plain d e plain other word is = record {
    behind = two;
    is = is;
    free = inr (
      (λ rest begins. plain rest (is_word ws i d word lt is ∙ begins)),
      (λ option named takes. let before : i - 1 < length ws = omega arith in
          let P : List ℕ → Type 0 = λ w. TakesValue w in
          other (subst P (sym (is_word ws (i - 1) e option before named)) takes)),
    );
  }

  pub option_not_free : (d : Bor (List ℕ)) → ¬ Contains (map (λ w. w.now) (take (i - 2) (drop 2 ws))) (codes "--") → ¬ IsPlain (get_or ws i d).now → (word : List ℕ) → ¬ IsFree (map (λ w. w.now) ws) i word
  option_not_free d none option word free = ⊎_elim
      (λ there. none (rw (options_are ws 2 i refl two) there))
      (λ plain. option (λ rest begins. plain.0 rest (sym (is_word ws i d word lt free.is) ∙ begins)))
      free.free

  pub value_not_free : (e : Bor (List ℕ)) → ¬ Contains (map (λ w. w.now) (take (i - 2) (drop 2 ws))) (codes "--")
      → TakesValue (get_or ws (i - 1) e).now → (word : List ℕ) → ¬ IsFree (map (λ w. w.now) ws) i word
  value_not_free e none takes word free = ⊎_elim
      (λ there. none (rw (options_are ws 2 i refl two) there))
      (λ plain. let before : i - 1 < length ws = omega arith in plain.1 (get_or ws (i - 1) e).now (at_word ws (i - 1) e before) takes)
      free.free

pub before_two : (words : List (List ℕ)) (i : ℕ) → i < 2 → (word : List ℕ) → ¬ IsFree words i word
before_two words i less word free = let two = free.behind in omega arith

-- one place more
pub one_more_free : (words : List (List ℕ)) (n : ℕ) (word : List ℕ) (places all : List ℕ) → AreFree words n places → IsFree words n word
    → all ≡ places ++ n ∷ [] → AreFree words (n + 1) all
one_more_free words n word places all before free is = rw add-one (inl (places, word, before, free, is))

pub none_more_free : (words : List (List ℕ)) (n : ℕ) (places : List ℕ) → AreFree words n places → ((word : List ℕ) → ¬ IsFree words n word)
    → AreFree words (n + 1) places
none_more_free words n places before none = rw add-one (inr (before, none))

-- one word more is left, or isn't
pub one_more_left : (words : List (List ℕ)) (place n : ℕ) (word : Bor (List ℕ)) (left all : List (Bor (List ℕ))) → AreLeft words place n (texts left)
    → slice_get words n ≡ Some word.now → (n ≡ place) ⊎ ((w : List ℕ) → ¬ IsFree words n w) → all ≡ left ++ word ∷ [] → AreLeft words place (n + 1) (texts all)
one_more_left words place n word left all before is kept made = rw add-one (inl (
  texts left,
  word.now,
  before,
  is,
  ⊎_elim (λ same. inl same) (λ none. inr (none word.now)) kept,
  ap texts made ∙ map-append (λ (w : Bor (List ℕ)). w.now) left (word ∷ []),
))

pub none_more_left : (words : List (List ℕ)) (place n : ℕ) (word : List ℕ) (left : List (List ℕ)) → AreLeft words place n left
    → n ≢ place → IsFree words n word → AreLeft words place (n + 1) left
none_more_left words place n word left before other free = rw add-one (inr (before, other, (word, free)))
