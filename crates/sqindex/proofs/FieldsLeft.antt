-- What is left of a list behind a place.
use Rattle.std.proofs.Common.{◌≡◌, ◌≢◌, ◌<◌, ◌≤◌, ◌+◌, ◌-◌, ℕ, true, false, is_some, MatchOption, option_map, Option, ℤ, take, zero, suc, List, [], ◌∷◌, length, drop, slice_get, Some, None, sym, ap, ◌∙◌, arith, length-drop}
use Rattle.std.specs.Ordering.{ordering_then}
use Rattle.std.specs.declared.cmp.Ordering.TheVariants.{Equal}
use Rattle.std.proofs.lemmas.Option.{slice_get_past, slice_get_within, get_or_from_slice_get}
use Rattle.sqlite_record.specs.declared.fields.Fields.{Fields}
use Rattle.sqlite_record.specs.Fields.{fields_left, GivesField}
use Rattle.sqlite_value.specs.declared.keys.Order.{Order}
use Rattle.sqlite_value.specs.declared.value.Value.{Value}
use Rattle.sqlite_value.specs.declared.value.Value.TheVariants.{Null, Int}
use Rattle.sqlite_value.specs.declared.value.ValueRef.{ValueRef}
use Rattle.sqlite_value.specs.Value.{owned}
use Rattle.sqlite_value.specs.Keys.{by_key, first_key, later, prefix_cmp}
use Rattle.sqlite_value.specs.Order.{Row, column}
use Rattle.sqindex.specs.Keys.{IsKeyed}
use Rattle.sqindex.proofs.Places.{some_once}

module _ {X : Type 0} where
  pub none_of : (xs : List X) (i : ℕ) → drop i xs ≡ [] → length xs ≤ i
  none_of xs i e = let none : length (drop i xs) ≡ 0 = ap length e in omega (arith, none, length-drop i xs)

  pub front_of : (xs : List X) (i : ℕ) (y : X) (ys : List X) → drop i xs ≡ y ∷ ys → slice_get xs i ≡ Some y
  front_of [] zero y ys e = absurd (cc)
  front_of [] (suc i) y ys e = absurd (cc)
  front_of (x ∷ xs) zero y ys e = cc
  front_of (x ∷ xs) (suc i) y ys e = front_of xs i y ys e

  tail_of : (xs : List X) (i : ℕ) (y : X) (ys : List X) → drop i xs ≡ y ∷ ys → drop (suc i) xs ≡ ys
  tail_of [] zero y ys e = absurd (cc)
  tail_of [] (suc i) y ys e = absurd (cc)
  tail_of (x ∷ xs) zero y ys e = cc
  tail_of (x ∷ xs) (suc i) y ys e = tail_of xs i y ys e

  pub rest_of : (xs : List X) (i : ℕ) (y : X) (ys : List X) → drop i xs ≡ y ∷ ys → drop (i + 1) xs ≡ ys
  rest_of xs i y ys e = let same : i + 1 ≡ suc i = omega arith in ap (λ n. drop n xs) same ∙ tail_of xs i y ys e

-- the value that comes next is the one at the place
pub field_at : (old new : Fields) (r : Option ValueRef) (xs : Row) (at : ℕ) → drop at xs ≡ fields_left old → GivesField old r new → option_map owned r ≡ slice_get xs at
field_at old new None xs at left g = sym (slice_get_past xs at (none_of xs at (left ∙ g.0)))
field_at old new (Some v) xs at left g = sym (front_of xs at (owned v) (fields_left new) (left ∙ g))

pub column_at : (xs : Row) (i : ℕ) (v : Value) → slice_get xs i ≡ Some v → column xs i ≡ v
column_at xs i v at = get_or_from_slice_get xs i v Null at

-- Where an entry is too short or too long, it isn't n columns and a rowid.
pub too_short : (xs : Row) (i n : ℕ) (rowid : ℤ) → drop i xs ≡ [] → i ≤ n → IsKeyed n rowid xs → ⊥
too_short xs i n rowid none few keyed = let a = none_of xs i none in let b = slice_get_within xs n (Int rowid) keyed.last in omega (arith, a, b, few)

pub too_long : (old new : Fields) (r : Option ValueRef) (xs : Row) (n : ℕ) (rowid : ℤ) → drop (n + 1) xs ≡ fields_left old → GivesField old r new → is_some r ≡ true → IsKeyed n rowid xs → ⊥
too_long old new None xs n rowid left g some keyed = absurd (cc)
too_long old new (Some v) xs n rowid left g some keyed = let a = slice_get_within xs (n + 1) (owned v) (front_of xs (n + 1) (owned v) (fields_left new) (left ∙ g)) in let b = keyed.many in omega (arith, a, b)

pub just_long : (old new : Fields) (r : Option ValueRef) (xs : Row) (n : ℕ) → drop (n + 1) xs ≡ fields_left old → GivesField old r new → is_some r ≡ false → length xs ≤ n + 1
just_long old new None xs n left g none = none_of xs (n + 1) (left ∙ g.0)
just_long old new (Some v) xs n left g none = absurd (cc)

pub keyed_by : (xs : Row) (n : ℕ) (v : Value) (r : Option ℤ) → slice_get xs n ≡ Some v → length xs ≤ n + 1 → MatchOption r ((m : ℤ) → v ≢ Int m) (λ m. v ≡ Int m)
    → MatchOption r ((rowid : ℤ) → ¬ IsKeyed n rowid xs) (λ rowid. IsKeyed n rowid xs)
keyed_by xs n v None at few is = λ rowid keyed. is rowid (some_once v (Int rowid) (sym at ∙ keyed.last))
keyed_by xs n v (Some m) at few is = record { many = (let a = slice_get_within xs n v at in omega (arith, a, few)); last = at ∙ ap (λ z. Some z) is }

-- two records agree as far as their next values do
pub agree_next : (o : Order) (v w : Value) (l r ls rs : Row) (n i : ℕ) → i < n → ls ≡ v ∷ l → rs ≡ w ∷ r → Equal ≡ by_key (first_key o) v w
    → prefix_cmp (later o) l (take (n - (i + 1)) r) ≡ prefix_cmp o ls (take (n - i) rs)
agree_next o v w l r ls rs n i less a b tie =
    let m = n - (i + 1) in
    let e : n - i ≡ suc m = omega (arith, less) in
    let same : prefix_cmp o ls (take (n - i) rs) ≡ prefix_cmp o (v ∷ l) (take (suc m) (w ∷ r)) = ap (λ z. prefix_cmp o z (take (n - i) rs)) a ∙ ap (λ z. prefix_cmp o (v ∷ l) (take (n - i) z)) b ∙ ap (λ k. prefix_cmp o (v ∷ l) (take k (w ∷ r))) e in
    ap (λ z. ordering_then z (prefix_cmp (later o) l (take m r))) tie ∙ sym same
