-- Lines that are written one behind the other.
use Rattle.std.proofs.Common.{◌≡◌, ◌⊎◌, ⊎_elim, inl, inr, ℕ, zero, suc, ◌+◌, List, [], ◌∷◌, ◌++◌, length, Option, refl, sym, ◌∙◌, ap, subst}
use Rattle.std.specs.Prelude.{slice_get, Some}
use Rattle.std.specs.List.{flat_map}
use Rattle.std.specs.Io.KnownBytes.{Appends}
use Rattle.std.proofs.KnownBytes.{Appends-trans}
use Rattle.std.proofs.lemmas.List.{append-nil, length-append}
use Rattle.std.proofs.lemmas.Grind.{flat_map-append}
use Rattle.std.proofs.lemmas.Option.{none-some}

-- an element with one more behind it
one_more : {X : Type 0} (xs : List X) (y : X) (j : ℕ) (x : X) → slice_get (xs ++ y ∷ []) j ≡ Some x
    → (slice_get xs j ≡ Some x) ⊎ ((j ≡ length xs) × (y ≡ x))
one_more [] y zero x is = let same : y ≡ x = cc in inr (refl, same)
one_more [] y (suc j) x is = absurd (none-some x is)
one_more (z ∷ xs) y zero x is = inl is
one_more (z ∷ xs) y (suc j) x is =
    ⊎_elim (λ there. inl there) (λ last. inr (ap (λ (n : ℕ). suc n) last.0, last.1)) (one_more xs y j x is)

-- one more of which the same holds at its place
pub each_more : {X : Type 0} (P : ℕ → X → Type 0) (xs : List X) (i : ℕ) (x : X) → length xs ≡ i
    → ((j : ℕ) (y : X) → slice_get xs j ≡ Some y → P j y) → P i x
    → (j : ℕ) (y : X) → slice_get (xs ++ x ∷ []) j ≡ Some y → P j y
each_more {X = X} P xs i x long each is j y there =
    ⊎_elim (λ before. each j y before)
    (λ last.
    let at : i ≡ j = sym (last.0 ∙ long) in
    subst (λ (n : ℕ). P n y) at (subst (λ (l : X). P i l) last.1 is))
    (one_more xs x j y there)

-- and of their number
pub length_more : {X : Type 0} (xs : List X) (y : X) (i : ℕ) → length xs ≡ i → length (xs ++ y ∷ []) ≡ i + 1
length_more xs y i long = length-append xs (y ∷ []) ∙ ap (λ (n : ℕ). n + 1) long

-- and of the text
pub appends_line : {X : Type 0} (old mid new : Option (List ℕ)) (text : X → List ℕ) (xs : List X) (x : X)
    → Appends old mid (flat_map text xs) → Appends mid new (text x) → Appends old new (flat_map text (xs ++ x ∷ []))
appends_line old mid new text xs x first more =
    let all : flat_map text (xs ++ x ∷ []) ≡ flat_map text xs ++ text x =
    flat_map-append text xs (x ∷ []) ∙ ap (λ (l : List ℕ). flat_map text xs ++ l) (append-nil (text x)) in
    subst (λ (l : List ℕ). Appends old new l) (sym all) (Appends-trans old mid new (flat_map text xs) (text x) first more)
