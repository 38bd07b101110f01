-- The rowid of an entry is that of the row whose entry it is.
use Rattle.std.proofs.Common.{◌≡◌, ◌≢◌, ◌∙◌, ⊎_elim, ℕ, suc, true, false, List, [], ◌∷◌, ◌++◌, map, length, slice_get, Some, ℤ, ◌<ℤ◌, refl, sym, ap, subst, arith}
use Rattle.std.proofs.lemmas.Cmp.{int_ranked}
use Rattle.std.proofs.lemmas.Int.{ints}
use Rattle.std.proofs.lemmas.Bool.{cases_Bool}
use Rattle.std.proofs.lemmas.Bool.Decides.{Decides-int_eq}
use Rattle.std.proofs.lemmas.Option.{get_or_from_slice_get}
use Rattle.std.specs.declared.cmp.Ordering.TheVariants.{Equal}
use Rattle.std.specs.Ordering.{int_cmp, int_eq}
use Rattle.sqlite_value.specs.declared.keys.Key.{Key}
use Rattle.sqlite_value.specs.declared.keys.Order.{Order}
use Rattle.sqlite_value.specs.declared.value.Value.TheVariants.{Null, Int}
use Rattle.sqlite_value.specs.Keys.{by_key, first_key, later, entry_cmp}
use Rattle.sqlite_value.specs.Order.{Row}
use Rattle.sqlite_value.proofs.KeyLemmas.{then_tied, tied_no_text}
use Rattle.sqlite_value.proofs.OrderLemmas.{value_cmp-Int}
use Rattle.sqkeys.specs.declared.key.KeyColumn.{KeyColumn}
use Rattle.sqkeys.specs.declared.key.IndexKey.{IndexKey}
use Rattle.sqindex.specs.Stored.{Stored}
use Rattle.sqindex.specs.Keys.{value_at, values_of, rowid_of, is_int, has_rowid, IsEntryOf, IsKeyed}
use Rattle.sqindex.specs.Rules.{width}
use Rattle.sqindex.proofs.Places.{some_once}

int_once : (m n : ℤ) → Int m ≡ Int n → m ≡ n
int_once m n e = cc

-- integers that tie under a key are the same
ints_tied : (k : Key) (m n : ℤ) → by_key k (Int m) (Int n) ≡ Equal → m ≡ n
ints_tied k m n tie =
    let plain : int_cmp m n ≡ Equal = sym (value_cmp-Int m n) ∙ tied_no_text k (Int m) (Int n) (λ (e : 1 ≡ 2). omega (arith, e)) tie in
    int_ranked m n Equal (sym plain)

last_same : (o : Order) (front values : Row) (m n : ℤ) → entry_cmp o (front ++ Int m ∷ []) values ≡ Equal → slice_get values (length front) ≡ Some (Int n) → m ≡ n
last_same o [] [] m n tie at = absurd (cc)
last_same o [] (v ∷ values) m n tie at =
    let first = (then_tied (by_key (first_key o) (Int m) v) (entry_cmp (later o) [] values) tie).0 in
    ints_tied (first_key o) m n (subst (λ z. by_key (first_key o) (Int m) z ≡ Equal) (some_once v (Int n) at) first)
last_same o (x ∷ front) [] m n tie at = absurd (cc)
last_same o (x ∷ front) (v ∷ values) m n tie at = last_same (later o) front values m n (then_tied (by_key (first_key o) x v) (entry_cmp (later o) (front ++ Int m ∷ []) values) tie).1 at

long : (columns : List KeyColumn) (rowid : ℤ) (row : Row) → length (map (λ column. value_at column rowid row) columns) ≡ length columns
long [] rowid row = refl
long (c ∷ columns) rowid row = ap suc (long columns rowid row)

pub rowid_same : (key : IndexKey) (row entry : Stored) (n : ℤ) → IsEntryOf key row entry → IsKeyed (width key) n (values_of entry) → rowid_of row ≡ n
rowid_same key row entry n is keyed =
    last_same key.order (map (λ column. value_at column (rowid_of row) (values_of row)) key.columns.items) (values_of entry) (rowid_of row) n is
    (subst (λ k. slice_get (values_of entry) k ≡ Some (Int n)) (sym (long key.columns.items (rowid_of row) (values_of row))) keyed.last)

-- an entry has one rowid
pub keyed_once : (n : ℕ) (a b : ℤ) (values : Row) → IsKeyed n a values → IsKeyed n b values → a ≡ b
keyed_once n a b values v w = int_once a b (some_once (Int a) (Int b) (sym v.last ∙ w.last))

pub not_below_itself : (a b : ℤ) → a ≡ b → a <ℤ b → ⊥
not_below_itself a b e less = omega (arith, ints, e, less)

pub has_own : (n : ℕ) (a b : ℤ) (values : Row) → IsKeyed n a values → a ≡ b → has_rowid n b values ≡ true
has_own n a b values keyed e = ap (is_int b) (get_or_from_slice_get values n (Int a) Null keyed.last) ∙ (Decides-int_eq a b).1 e

pub has_other : (n : ℕ) (a b : ℤ) (values : Row) → IsKeyed n a values → a ≢ b → has_rowid n b values ≡ false
has_other n a b values keyed e = ap (is_int b) (get_or_from_slice_get values n (Int a) Null keyed.last) ∙ ⊎_elim
    (λ (same : int_eq a b ≡ true). absurd (e ((Decides-int_eq a b).0 same)))
    (λ (other : int_eq a b ≡ false). other)
    (cases_Bool (int_eq a b))
