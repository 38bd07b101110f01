-- Objects that are counted one by one.
use Rattle.std.proofs.Common.{◌≡◌, ◌<◌, ◌+◌, Bool, true, false, List, [], ◌∷◌, ◌++◌, ℕ, suc, length, take, get_or, refl, sym, ap, ◌∙◌, subst, add-one}
use Rattle.std.specs.Prelude.{if◌then◌else◌}
use Rattle.std.proofs.Math.Seq.{take-suc}
use Rattle.sqtables.specs.declared.list.Object.{Object}
use Rattle.cli_show_diff.specs.LeftOut.{HasCount}

-- one more, or not
abbrev pub counted : Bool → ℕ → ℕ
counted left n = if left then suc n else n

swapped : (a b : Bool) (m : ℕ) → counted a (counted b m) ≡ counted b (counted a m)
swapped true true m = refl
swapped true false m = refl
swapped false true m = refl
swapped false false m = refl

left_snoc : (is : Object → Bool → Type 0) (objects : List Object) (o : Object) (n : ℕ) (left : Bool) → HasCount is objects n → is o left → HasCount is (objects ++ o ∷ []) (counted left n)
left_snoc is [] o n left has it = (left, 0, it, refl, ap (counted left) has)
left_snoc is (x ∷ objects) o n left has it =
    (has.0, counted left has.1, has.2, left_snoc is objects o has.1 left has.3 it, ap (counted left) has.4 ∙ swapped left has.0 has.1)

left_more : (is : Object → Bool → Type 0) (objects : List Object) (i : ℕ) (x : Object) (n : ℕ) (left : Bool) → i < length objects
    → HasCount is (take i objects) n → is (get_or objects i x) left → HasCount is (take (i + 1) objects) (counted left n)
left_more is objects i x n left within has it =
    let more : take (i + 1) objects ≡ take i objects ++ get_or objects i x ∷ [] = ap (λ n. take n objects) (add-one i) ∙ take-suc objects i x within in
    subst (λ (os : List Object). HasCount is os (counted left n)) (sym more) (left_snoc is (take i objects) (get_or objects i x) n left has it)

-- one more is left out
pub one_more : (is : Object → Bool → Type 0) (objects : List Object) (i : ℕ) (x : Object) (n : ℕ) (left : Bool) → i < length objects → HasCount is (take i objects) n
    → is (get_or objects i x) left → left ≡ true → HasCount is (take (i + 1) objects) (n + 1)
one_more is objects i x n left within has it is_left =
    subst (λ m. HasCount is (take (i + 1) objects) m) (ap (λ (b : Bool). counted b n) is_left ∙ sym (add-one n)) (left_more is objects i x n left within has it)

-- one more isn't
pub no_more : (is : Object → Bool → Type 0) (objects : List Object) (i : ℕ) (x : Object) (n : ℕ) (left : Bool) → i < length objects → HasCount is (take i objects) n
    → is (get_or objects i x) left → left ≡ false → HasCount is (take (i + 1) objects) n
no_more is objects i x n left within has it is_kept =
    subst (λ m. HasCount is (take (i + 1) objects) m) (ap (λ (b : Bool). counted b n) is_kept) (left_more is objects i x n left within has it)
