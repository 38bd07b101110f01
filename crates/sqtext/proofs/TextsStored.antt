-- Units that are stored one by one.
use Rattle.std.proofs.Common.{◌≡◌, ℕ, ◌+◌, ◌<◌, Bool, List, [], ◌∷◌, ◌++◌, take, get_or, length, ap, ◌∙◌, add-one, append-nil, arith}
use Rattle.std.specs.List.{flat_map}
use Rattle.std.proofs.Math.Seq.{take-suc}
use Rattle.std.proofs.lemmas.Grind.{flat_map-append}

pub units_more : (f : ℕ → List ℕ) (units : List ℕ) (i d : ℕ) → i < length units → flat_map f (take (i + 1) units) ≡ flat_map f (take i units) ++ f (get_or units i d)
units_more f units i d within =
    ap (λ n. flat_map f (take n units)) (add-one i)
    ∙ ap (flat_map f) (take-suc units i d within)
    ∙ flat_map-append f (take i units) (get_or units i d ∷ [])
    ∙ ap (λ z. flat_map f (take i units) ++ z) (append-nil (f (get_or units i d)))
