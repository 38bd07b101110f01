-- Texts that are written with a mark between them.
use Rattle.std.proofs.Common.{◌≡◌, ◌∙◌, ℕ, zero, suc, ◌+◌, ◌<◌, ◌==◌, Bool, false, List, [], ◌∷◌, ◌++◌, length, get_or, take, map, Option, Result, Ok, Err, OnOk, sym, ap, subst, append_assoc, arith}
use Rattle.std.specs.Io.KnownBytes.{Appends}
use Rattle.std.proofs.KnownBytes.{Appends-trans}
use Rattle.std.proofs.lemmas.List.{append-nil, take_more, map-append}
use Rattle.std.proofs.lemmas.Grind.{flat_map-append}
use Rattle.std.proofs.lemmas.Bool.Decides.{nat_tests}
use Rattle.cli_text.specs.Facts.{behind, joined, separator}

-- one more text behind others
joined-more : (mark x : List ℕ) (xs : List (List ℕ)) (y : List ℕ)
    → joined mark ((x ∷ xs) ++ y ∷ []) ≡ joined mark (x ∷ xs) ++ (mark ++ y)
joined-more mark x xs y =
    ap (λ (l : List ℕ). x ++ l) (flat_map-append (λ (text : List ℕ). mark ++ text) xs (y ∷ []))
    ∙ ap (λ (l : List ℕ). x ++ (behind mark xs ++ l)) (append-nil (mark ++ y))
    ∙ sym (append_assoc x (behind mark xs) (mark ++ y))

-- the same, or the first one
joined_more : {X : Type 0} (mark : List ℕ) (text : X → List ℕ) (xs : List X) (i : ℕ) (d : X) → i < length xs
    → joined mark (map text (take (i + 1) xs)) ≡ joined mark (map text (take i xs)) ++ (separator mark (i == 0) ++ text (get_or xs i d))
joined_more mark text [] i d within = absurd (omega (arith, within))
joined_more mark text (x ∷ xs) zero d within = append-nil (text x)
joined_more {X = X} mark text (x ∷ xs) (suc i) d within =
    let last = get_or (x ∷ xs) (suc i) d in
    let not_first : (suc i == 0) ≡ false = grind (arith, nat_tests) in
    ap (λ (l : List X). joined mark (map text l)) (take_more (x ∷ xs) (suc i) d within)
    ∙ ap (joined mark) (map-append text (x ∷ take i xs) (last ∷ []))
    ∙ joined-more mark (text x) (map text (take i xs)) (text last)
    ∙ ap (λ (b : Bool). joined mark (map text (x ∷ take i xs)) ++ (separator mark b ++ text last)) (sym not_first)

-- a mark, if one is due, and one more text
pub appends_thing : {X : Type 0} (old mid marked new : Option (List ℕ)) (mark : List ℕ) (text : X → List ℕ) (xs : List X) (i : ℕ) (d : X)
    → i < length xs → Appends old mid (joined mark (map text (take i xs)))
    → Appends mid marked (separator mark (i == 0)) → Appends marked new (text (get_or xs i d))
    → Appends old new (joined mark (map text (take (i + 1) xs)))
appends_thing old mid marked new mark text xs i d within first between last =
    let both = Appends-trans mid marked new (separator mark (i == 0)) (text (get_or xs i d)) between last in
    subst (λ (l : List ℕ). Appends old new l) (sym (joined_more mark text xs i d within))
    (Appends-trans old mid new (joined mark (map text (take i xs))) (separator mark (i == 0) ++ text (get_or xs i d)) first both)

-- two texts, the last of which may fail
pub appends_two : {T E : Type 0} (answer : Result T E) (old mid new : Option (List ℕ)) (xs ys : List ℕ)
    → Appends old mid xs → OnOk answer (Appends mid new ys) → OnOk answer (Appends old new (xs ++ ys))
appends_two (Ok _) old mid new xs ys first last = Appends-trans old mid new xs ys first last
appends_two (Err _) old mid new xs ys first last = tt
