-- The first values of a row, one after another.
use Rattle.std.proofs.Common.{◌≡◌, ◌∙◌, ℕ, ◌+◌, ◌-◌, ◌<◌, ◌≤◌, List, [], ◌∷◌, ◌++◌, map, take, refl, sym, ap, append_assoc, arith}
use Rattle.std.specs.Prelude.{zero, suc}
use Rattle.sqval.specs.Datum.{Datum}
use Rattle.sqlite_value.specs.declared.value.Value.{Value}
use Rattle.sqkeys.specs.Columns.{value_of}

take_one : (w k : ℕ) (x : Datum) (xs : List Datum) → k < w → take (w - k) (x ∷ xs) ≡ x ∷ take (w - (k + 1)) xs
take_one w k x xs h =
    let e : w - k ≡ suc (w - (k + 1)) = omega arith in
    ap (λ n. take n (x ∷ xs)) e

none_taken : (n : ℕ) (xs : List Datum) → xs ≡ [] → map value_of (take n xs) ≡ []
none_taken zero [] e = refl
none_taken (suc n) [] e = refl
none_taken n (x ∷ xs) e = absurd (cc)

zero_taken : (xs : List Datum) → map value_of (take 0 xs) ≡ []
zero_taken [] = refl
zero_taken (x ∷ xs) = refl

append_none : (xs : List Value) → xs ++ [] ≡ xs
append_none [] = refl
append_none (x ∷ xs) = ap (λ ys. x ∷ ys) (append_none xs)

pub one_more : (values all : List Value) (w k : ℕ) (x : Datum) (columns rest : List Datum) → k < w → columns ≡ x ∷ rest
    → values ++ map value_of (take (w - k) columns) ≡ all → (values ++ value_of x ∷ []) ++ map value_of (take (w - (k + 1)) rest) ≡ all
one_more values all w k x columns rest h is so =
    let e : map value_of (take (w - k) columns) ≡ value_of x ∷ map value_of (take (w - (k + 1)) rest)
    = ap (λ c. map value_of (take (w - k) c)) is ∙ ap (map value_of) (take_one w k x rest h) in
    append_assoc values (value_of x ∷ []) (map value_of (take (w - (k + 1)) rest)) ∙ ap (λ l. values ++ l) (sym e) ∙ so

pub no_more : (values all : List Value) (n : ℕ) (columns : List Datum) → columns ≡ [] → values ++ map value_of (take n columns) ≡ all → values ≡ all
no_more values all n columns none so = sym (append_none values) ∙ ap (λ l. values ++ l) (sym (none_taken n columns none)) ∙ so

pub all_taken : (values all : List Value) (w k : ℕ) (columns : List Datum) → w ≤ k → values ++ map value_of (take (w - k) columns) ≡ all → values ≡ all
all_taken values all w k columns h so =
    let e : w - k ≡ 0 = omega arith in
    let none : map value_of (take (w - k) columns) ≡ [] = ap (λ n. map value_of (take n columns)) e ∙ zero_taken columns in
    sym (append_none values) ∙ ap (λ l. values ++ l) (sym none) ∙ so
