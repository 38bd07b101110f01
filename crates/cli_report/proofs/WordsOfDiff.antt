-- Whether words name a commit to begin at.
use Rattle.std.proofs.Common.{◌≡◌, ⊎_elim, ℕ, ◌+◌, ◌<◌, ◌≤◌, List, Bor, map, length, get_or, sym, ◌∙◌, ap, subst, arith}
use Rattle.std.specs.Prelude.{Some, slice_get, codes}
use Rattle.std.proofs.lemmas.Option.{slice_get-get_or}
use Rattle.std.proofs.lemmas.Bool.{cases_lt}
use Rattle.cli_words.specs.Line.{IsNamed}
use Rattle.cli_words.proofs.CommandLineArguments.{at_word, is_there, is_word, words_long}
use Rattle.cli_report.specs.Diffs.{NamesFrom}

-- none of the first words does
abbrev pub NamesNone : (words : List (List ℕ)) (n : ℕ) → Type 0
NamesNone words n = (k : ℕ) (word : List ℕ) → k < n → slice_get words k ≡ Some word → ¬ IsNamed (codes "--from") word

module _ (ws : List (Bor (List ℕ))) where
  pub none_named : (n : ℕ) → length ws ≤ n → NamesNone (map (λ w. w.now) ws) n → ¬ NamesFrom (map (λ w. w.now) ws)
  none_named n all none named =
      let there = named.1 in
      none there.0 named.0 (omega (arith, words_long ws, there.1)) (slice_get-get_or (map (λ w. w.now) ws) there.0 named.0 there.1 ∙ ap Some there.2) named.2

  module _ (i : ℕ) (d : Bor (List ℕ)) (lt : i < length ws) where
    pub one_named : IsNamed (codes "--from") (get_or ws i d).now → NamesFrom (map (λ w. w.now) ws)
    one_named is = ((get_or ws i d).now, is_there (map (λ w. w.now) ws) (get_or ws i d).now i (at_word ws i d lt), is)

    pub none_more : NamesNone (map (λ w. w.now) ws) i → ¬ IsNamed (codes "--from") (get_or ws i d).now → NamesNone (map (λ w. w.now) ws) (i + 1)
    none_more before here k word below is = ⊎_elim
        (λ less. before k word less is)
        (λ ge. let same : k ≡ i = omega arith in
        let P : List ℕ → Type 0 = λ w. ¬ IsNamed (codes "--from") w in
        subst P (is_word ws i d word lt (ap (λ n. slice_get (map (λ w. w.now) ws) n) (sym same) ∙ is)) here)
        (cases_lt k i)
