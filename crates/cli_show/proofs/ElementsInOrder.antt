-- Elements that are in the order of their numbers.
use Rattle.std.proofs.Common.{◌≡◌, ◌≢◌, ⊎_elim, ℕ, ◌<◌, ◌≤◌, true, false, List, length, get_or, ap, subst, arith}
use Rattle.std.specs.Prelude.{ltb, slice_get, Some}
use Rattle.std.specs.List.Sorted.{IsNonDecreasingBy, IsPartitionPoint}
use Rattle.std.proofs.lemmas.Bool.{cases_lt, ltb-true, ltb-false}
use Rattle.std.proofs.lemmas.Option.{get_or_from_slice_get, slice_get_within, slice_get-get_or}

-- none has a number that the first one from its place on has not
pub none_there : {X : Type 0} (n : X → ℕ) (xs : List X) (k place : ℕ) → IsNonDecreasingBy n xs
    → IsPartitionPoint (λ (x : X). ltb (n x) k ≡ true) (λ (x : X). ltb (n x) k ≡ false) xs place
    → ((e : X) → slice_get xs place ≡ Some e → n e ≢ k) → (j : ℕ) (x : X) → slice_get xs j ≡ Some x → n x ≢ k
none_there {X = X} n xs k place sorted point other j x there eq =
    let within = slice_get_within xs j x there in
    let here : get_or xs j x ≡ x = get_or_from_slice_get xs j x x there in
    ⊎_elim
    (λ lt.
    let less = ltb-true (n x) k (subst (λ (y : X). ltb (n y) k ≡ true) here (point.0 j x (omega arith) lt)) in
    omega (arith, less, eq))
    (λ ge.
    let inside : place < length xs = omega (arith, within, ge) in
    let least = ltb-false (n (get_or xs place x)) k (point.1 place x (omega arith) inside) in
    let rises : n (get_or xs place x) ≤ n (get_or xs j x) = sorted place j x ge within in
    let last : n (get_or xs j x) ≡ n x = ap n here in
    other (get_or xs place x) (slice_get-get_or xs place x inside) (omega (arith, rises, last, least, eq)))
    (cases_lt j place)
