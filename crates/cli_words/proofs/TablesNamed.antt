-- What a word gives as an option of a name.
use Rattle.std.proofs.Common.{◌≡◌, ◌≢◌, ◌⊎◌, inl, inr, ⊎_elim, ℕ, suc, ◌+◌, ◌<◌, ◌≤◌, List, [], ◌∷◌, Bor, ◌++◌, map, length, get_or, ◌∙◌, ap, arith, add-one}
use Rattle.std.specs.Prelude.{Option, None, Some, MatchOption, slice_get, codes}
use Rattle.std.proofs.lemmas.List.{map-append}
use Rattle.std.proofs.lemmas.Option.{slice_get_within}
use Rattle.cli_words.specs.Line.{GiveTexts, GivesText}
use Rattle.cli_words.proofs.CommandLineArguments.{at_word, is_word, words_long}

module _ (ws : List (Bor (List ℕ))) (i : ℕ) (d : Bor (List ℕ)) (lt : i < length ws) (name : List ℕ) where
  pub gives_behind : (e : Bor (List ℕ)) → (get_or ws i d).now ≡ name → i + 1 < length ws
      → GivesText name (map (λ w. w.now) ws) i (get_or ws (i + 1) e).now
  gives_behind e is next = inl (
    at_word ws i d lt ∙ ap Some is,
    (let same : suc i ≡ i + 1 = omega arith in ap (λ j. slice_get (map (λ w. w.now) ws) j) same ∙ at_word ws (i + 1) e next),
  )

  pub gives_none : ((get_or ws i d).now ≢ name) ⊎ (length ws ≤ i + 1) → ((text : List ℕ) → (get_or ws i d).now ≢ name ++ (codes "=" ++ text))
      → (text : List ℕ) → ¬ GivesText name (map (λ w. w.now) ws) i text
  gives_none other value text gives = ⊎_elim
      (λ n. ⊎_elim (λ ne. ne (is_word ws i d name lt n.0))
      (λ le. let within : suc i < length (map (λ w. w.now) ws) = slice_get_within (map (λ w. w.now) ws) (suc i) text n.1 in
      omega (arith, words_long ws)) other)
      (λ e. value text (is_word ws i d (name ++ (codes "=" ++ text)) lt e))
      gives

  pub gives_joined : (r : Option (Bor (List ℕ))) → ((get_or ws i d).now ≢ name) ⊎ (length ws ≤ i + 1)
      → MatchOption r ((text : List ℕ) → (get_or ws i d).now ≢ name ++ (codes "=" ++ text)) (λ text. (get_or ws i d).now ≡ name ++ (codes "=" ++ text.now))
      → MatchOption r ((text : List ℕ) → ¬ GivesText name (map (λ w. w.now) ws) i text) (λ text. GivesText name (map (λ w. w.now) ws) i text.now)
  gives_joined None other value = gives_none other value
  gives_joined (Some text) other is = inr (at_word ws i d lt ∙ ap Some is)

-- one word more
pub one_more : (name : List ℕ) (options : List (List ℕ)) (n : ℕ) (names all : List (Bor (List ℕ))) (text : Bor (List ℕ))
    → GiveTexts name options n (map (λ w. w.now) names) → GivesText name options n text.now → all ≡ names ++ text ∷ []
    → GiveTexts name options (n + 1) (map (λ w. w.now) all)
one_more name options n names all text before gives is =
    rw add-one (inl (
      map (λ w. w.now) names,
      text.now,
      before,
      gives,
      ap (map (λ w. w.now)) is ∙ map-append (λ (w : Bor (List ℕ)). w.now) names (text ∷ []),
    ))

pub none_more_named : (name : List ℕ) (options : List (List ℕ)) (n : ℕ) (texts : List (List ℕ)) → GiveTexts name options n texts
    → ((text : List ℕ) → ¬ GivesText name options n text) → GiveTexts name options (n + 1) texts
none_more_named name options n texts before none = rw add-one (inr (before, none))
