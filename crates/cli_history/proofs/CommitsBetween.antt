-- Commits that are taken one by one.
use Rattle.std.proofs.Common.{◌≡◌, ◌<◌, ◌+◌, List, [], ◌∷◌, ◌++◌, ℕ, length, take, get_or, refl, ap, ◌∙◌, add-one, sym, true, false, Bool}
use Rattle.std.specs.List.{filter}
use Rattle.std.proofs.Math.Seq.{take-suc}
use Rattle.std.proofs.lemmas.List.Elements.{filter-append}
use Rattle.std.proofs.lemmas.List.{append-nil}

module _ (p : ℕ → Bool) where
  only : (x : ℕ) → p x ≡ true → filter p (x ∷ []) ≡ x ∷ []
  only x is = rw is refl

  none : (x : ℕ) → p x ≡ false → filter p (x ∷ []) ≡ []
  none x is = rw is refl

  more : (xs : List ℕ) (i : ℕ) → i < length xs → filter p (take (i + 1) xs) ≡ filter p (take i xs) ++ filter p (get_or xs i 0 ∷ [])
  more xs i within = ap (filter p) (ap (λ n. take n xs) (add-one i) ∙ take-suc xs i 0 within) ∙ filter-append p (take i xs) (get_or xs i 0 ∷ [])

  pub taken_more : (xs list next : List ℕ) (i x : ℕ) → i < length xs → x ≡ get_or xs i 0 → p x ≡ true → list ≡ filter p (take i xs)
      → next ≡ list ++ x ∷ [] → next ≡ filter p (take (i + 1) xs)
  taken_more xs list next i x within at is before grown =
      grown ∙ ap (λ l. l ++ x ∷ []) before
      ∙ ap (λ l. filter p (take i xs) ++ l) (sym (ap (λ n. filter p (n ∷ [])) (sym at) ∙ only x is))
      ∙ sym (more xs i within)

  pub passed_more : (xs list : List ℕ) (i x : ℕ) → i < length xs → x ≡ get_or xs i 0 → p x ≡ false → list ≡ filter p (take i xs)
      → list ≡ filter p (take (i + 1) xs)
  passed_more xs list i x within at is before =
      before ∙ sym (more xs i within ∙ ap (λ l. filter p (take i xs) ++ l) (ap (λ n. filter p (n ∷ [])) (sym at) ∙ none x is) ∙ append-nil (filter p (take i xs)))
