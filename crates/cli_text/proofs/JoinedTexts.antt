-- Texts that are joined by a mark.
use Rattle.std.proofs.Common.{◌≡◌, ℕ, zero, suc, ◌+◌, ◌<◌, ◌==◌, Bool, false, List, [], ◌∷◌, ◌++◌, length, get_or, take, map, sym, ap, ◌∙◌, append_assoc, arith}
use Rattle.std.proofs.lemmas.List.{append-nil, take_more, map-append}
use Rattle.std.proofs.lemmas.Grind.{flat_map-append}
use Rattle.std.proofs.lemmas.Bool.Decides.{nat_tests}
use Rattle.cli_text.specs.Facts.{behind, joined, separator}

-- one more text behind others
pub joined-more : (mark x : List ℕ) (xs : List (List ℕ)) (y : List ℕ)
    → joined mark ((x ∷ xs) ++ y ∷ []) ≡ joined mark (x ∷ xs) ++ (mark ++ y)
joined-more mark x xs y =
    ap (λ (l : List ℕ). x ++ l) (flat_map-append (λ (text : List ℕ). mark ++ text) xs (y ∷ []))
    ∙ ap (λ (l : List ℕ). x ++ (behind mark xs ++ l)) (append-nil (mark ++ y))
    ∙ sym (append_assoc x (behind mark xs) (mark ++ y))

-- one more part, the first one or one behind others
pub joined_more : {X : Type 0} (mark : List ℕ) (text : X → List ℕ) (xs : List X) (i : ℕ) (d : X) → i < length xs
    → joined mark (map text (take (i + 1) xs)) ≡ joined mark (map text (take i xs)) ++ (separator mark (i == 0) ++ text (get_or xs i d))
joined_more mark text [] i d within = absurd (omega (arith, within))
joined_more mark text (x ∷ xs) zero d within = append-nil (text x)
joined_more {X = X} mark text (x ∷ xs) (suc i) d within =
    let last = get_or (x ∷ xs) (suc i) d in
    let not_first : (suc i == 0) ≡ false = grind (arith, nat_tests) in
    ap (λ (l : List X). joined mark (map text l)) (take_more (x ∷ xs) (suc i) d within)
    ∙ ap (joined mark) (map-append text (x ∷ take i xs) (last ∷ []))
    ∙ joined-more mark (text x) (map text (take i xs)) (text last)
    ∙ ap (λ (b : Bool). joined mark (map text (x ∷ take i xs)) ++ (separator mark b ++ text last)) (sym not_first)

-- the last part behind others
pub joined-last : {X : Type 0} (mark : List ℕ) (text : X → List ℕ) (xs : List X) (y : X) → 0 < length xs
    → joined mark (map text (xs ++ y ∷ [])) ≡ joined mark (map text xs) ++ (mark ++ text y)
joined-last mark text [] y some = absurd (omega (arith, some))
joined-last mark text (x ∷ xs) y some =
    ap (joined mark) (map-append text (x ∷ xs) (y ∷ [])) ∙ joined-more mark (text x) (map text xs) (text y)
