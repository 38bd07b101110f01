-- The files of a name that holds one of them.
use Rattle.std.proofs.Common.{◌≡◌, inl, inr, ℕ, zero, suc, min, List, [], ◌∷◌, length, take, drop, map, refl, sym, ◌∙◌, ap, arith}
use Rattle.std.proofs.lemmas.Bool.{cases_lt}
use Rattle.std.proofs.lemmas.List.{drop-map}
use Rattle.std.proofs.Math.ListN.{drop_of_length-le}

map_take : {X Y : Type 0} (f : X → Y) (n : ℕ) (xs : List X) → map f (take n xs) ≡ take n (map f xs)
map_take f zero xs = refl
map_take f (suc n) [] = refl
map_take f (suc n) (x ∷ xs) = ap (λ l. f x ∷ l) (map_take f n xs)

take_one : {X : Type 0} (n : ℕ) (xs : List X) → n ≡ min (length xs) 1 → take n xs ≡ take 1 xs
take_one zero [] e = refl
take_one (suc n) [] e = refl
take_one zero (x ∷ xs) e = absurd (omega (arith, e))
take_one (suc zero) (x ∷ xs) e = refl
take_one (suc (suc n)) (x ∷ xs) e = absurd (omega (arith, e))

drop_least : {X : Type 0} (n i : ℕ) (xs : List X) → n ≡ min i (length xs) → drop n xs ≡ drop i xs
drop_least n i xs e = elim (cases_lt i (length xs)) [
  | inl lt ↦ let same : n ≡ i = omega arith in ap (λ (k : ℕ). drop k xs) same
  | inr ge ↦ drop_of_length-le xs (omega arith) ∙ sym (drop_of_length-le xs (omega arith))
]

pub one_of : {X Y : Type 0} (f : X → Y) (xs from out : List X) (all : List Y) (i n m : ℕ) → map f xs ≡ all → n ≡ min i (length xs) → from ≡ drop n xs → m ≡ min (length from) 1 → out ≡ take m from
    → map f out ≡ take 1 (drop i all)
one_of f xs from out all i n m same at is one outs =
    ap (λ l. map f l) (outs ∙ take_one m from one ∙ ap (λ l. take 1 l) (is ∙ drop_least n i xs at))
    ∙ map_take f 1 (drop i xs) ∙ ap (λ l. take 1 l) (sym (drop-map f i xs) ∙ ap (λ l. drop i l) same)
