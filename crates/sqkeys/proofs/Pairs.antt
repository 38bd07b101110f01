-- One more pair of items of two lists.
use Rattle.std.proofs.Common.{List, [], ◌∷◌, ◌++◌}
use Rattle.std.specs.List.{AllZip}

pub pairs_push : {A B : Type 0} (R : A → B → Type 0) (xs : List A) (ys : List B) (x : A) (y : B) → AllZip R xs ys → R x y → AllZip R (xs ++ x ∷ []) (ys ++ y ∷ [])
pairs_push R [] [] x y all one = (one, tt)
pairs_push R [] (b ∷ ys) x y all one = absurd all
pairs_push R (a ∷ xs) [] x y all one = absurd all
pairs_push R (a ∷ xs) (b ∷ ys) x y all one = (all.0, pairs_push R xs ys x y all.1 one)
