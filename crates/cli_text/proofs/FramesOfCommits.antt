-- The frames before each commit.
use Rattle.std.proofs.Common.{◌≡◌, ℕ, zero, suc, ◌<◌, List, [], ◌∷◌, length, get_or, refl, ap, arith}
use Rattle.std.specs.List.{zip}

-- each element with the one before it: there are as many
pub length-zip_before : (x : ℕ) (xs : List ℕ) → length (zip (x ∷ xs) xs) ≡ length xs
length-zip_before x [] = refl
length-zip_before x (y ∷ ys) = ap suc (length-zip_before y ys)

-- the pair at a place
pub get_or-zip_before : (x : ℕ) (xs : List ℕ) (i : ℕ) (d : ℕ × ℕ) → i < length xs
    → get_or (zip (x ∷ xs) xs) i d ≡ (get_or (x ∷ xs) i 0, get_or xs i 0)
get_or-zip_before x [] i d within = absurd (omega (arith, within))
get_or-zip_before x (y ∷ ys) zero d within = refl
get_or-zip_before x (y ∷ ys) (suc i) d within = get_or-zip_before y ys i d (omega (arith, within))
