-- Texts of elements, one more at the end.
use Rattle.std.proofs.Common.{◌≡◌, ℕ, ◌+◌, ◌<◌, ◌++◌, List, [], ◌∷◌, map, take, get_or, length, ap, ◌∙◌, add-one, append-nil, refl, arith}
use Rattle.std.specs.List.{flat_map}
use Rattle.std.proofs.Math.Seq.{take-suc}
use Rattle.std.proofs.lemmas.Grind.{flat_map-append}
use Rattle.std.proofs.lemmas.List.{map-append}
use Rattle.cli_row_text.specs.declared.form.Notation.{Notation}
use Rattle.cli_row_text.specs.Headings.{name_in_quotes, names_listed, next_name}

pub texts_more : {A : Type 0} (f : List ℕ → List ℕ) (g : A → List ℕ) (xs : List A) (i : ℕ) (d : A) → i < length xs
    → flat_map f (map g (take (i + 1) xs)) ≡ flat_map f (map g (take i xs)) ++ f (g (get_or xs i d))
texts_more f g xs i d within =
    ap (λ n. flat_map f (map g (take n xs))) (add-one i)
    ∙ ap (λ z. flat_map f (map g z)) (take-suc xs i d within)
    ∙ ap (flat_map f) (map-append g (take i xs) (get_or xs i d ∷ []))
    ∙ flat_map-append f (map g (take i xs)) (g (get_or xs i d) ∷ [])
    ∙ ap (λ z. flat_map f (map g (take i xs)) ++ z) (append-nil (f (g (get_or xs i d))))

-- names of which these are the first one and the others, and none
pub listed_first : {A : Type 0} (notation : Notation) (g : A → List ℕ) (names : List A) (first : A) (rest : List A) → names ≡ first ∷ rest
    → names_listed notation (map g names) ≡ name_in_quotes notation (g first) ++ flat_map (next_name notation) (map g rest)
listed_first notation g names first rest e = ap (λ z. names_listed notation (map g z)) e

pub listed_none : {A : Type 0} (notation : Notation) (g : A → List ℕ) (names : List A) → length names ≡ 0 → names_listed notation (map g names) ≡ []
listed_none notation g [] none = refl
listed_none notation g (name ∷ names) none = absurd (omega arith)
