-- An entry that has the columns of a row and its rowid is the row's.
use Rattle.std.proofs.Common.{◌≡◌, ◌+◌, ◌∙◌, ℕ, ℤ, zero, suc, List, [], ◌∷◌, length, drop, slice_get, Some, sym, refl, ap, arith}
use Rattle.std.proofs.lemmas.List.{drop_all}
use Rattle.std.specs.Ordering.{ordering_reverse, ordering_then}
use Rattle.std.specs.declared.cmp.Ordering.{Ordering}
use Rattle.std.specs.declared.cmp.Ordering.TheVariants.{Less, Equal, Greater}
use Rattle.sqlite_value.specs.declared.keys.Order.{Order}
use Rattle.sqlite_value.specs.declared.value.Value.{Value}
use Rattle.sqlite_value.specs.declared.value.Value.TheVariants.{Int}
use Rattle.sqlite_value.specs.Keys.{by_key, first_key, later, entry_cmp}
use Rattle.sqlite_value.specs.Order.{Row}
use Rattle.sqlite_value.proofs.KeyLemmas.{entry_cmp_total}
use Rattle.sqkeys.specs.declared.key.KeyColumn.{KeyColumn}
use Rattle.sqindex.specs.Keys.{value_at, entry_for, IsKeyed}

last_alone : {X : Type 0} (xs : List X) (n : ℕ) (y : X) → length xs ≡ n + 1 → slice_get xs n ≡ Some y → drop n xs ≡ y ∷ []
last_alone [] zero y many at = absurd (cc)
last_alone [] (suc n) y many at = absurd (cc)
last_alone (x ∷ []) zero y many at = cc
last_alone (x ∷ (z ∷ xs)) zero y many at = absurd (omega (arith, many))
last_alone (x ∷ xs) (suc n) y many at = last_alone xs n y (omega (arith, many)) at

tie : (r : Ordering) → r ≡ ordering_reverse r → r ≡ Equal
tie Less e = absurd (cc)
tie Equal e = refl
tie Greater e = absurd (cc)

none_left : {X : Type 0} (xs : List X) (i : ℕ) → i ≡ length xs → drop i xs ≡ []
none_left xs i end = drop_all i xs (omega (arith, end))

own_tie : (o : Order) (r : Row) → entry_cmp o r r ≡ Equal
own_tie o r = tie (entry_cmp o r r) ((entry_cmp_total o).antisymm r r)

-- what is left of both behind the columns is the rowid
pub rowids_alike : (o : Order) (columns : List KeyColumn) (i : ℕ) (row entry left : Row) (rowid : ℤ)
    → i ≡ length columns → IsKeyed (length columns) rowid entry → drop i entry ≡ left → entry_cmp o (entry_for (drop i columns) rowid row) left ≡ Equal
rowids_alike o columns i row entry left rowid end keyed is =
    let behind : drop i entry ≡ Int rowid ∷ [] = ap (λ n. drop n entry) end ∙ last_alone entry (length columns) (Int rowid) keyed.many keyed.last in
    let alone : left ≡ Int rowid ∷ [] = sym is ∙ behind in
    let none : entry_for (drop i columns) rowid row ≡ Int rowid ∷ [] = ap (λ cs. entry_for cs rowid row) (none_left columns i end) in
    ap (λ r. entry_cmp o r left) none ∙ ap (entry_cmp o (Int rowid ∷ [])) alone ∙ own_tie o (Int rowid ∷ [])

front_at : {X : Type 0} (xs : List X) (i : ℕ) (x : X) → slice_get xs i ≡ Some x → drop i xs ≡ x ∷ drop (suc i) xs
front_at [] zero x at = absurd (cc)
front_at [] (suc i) x at = absurd (cc)
front_at (y ∷ xs) zero x at = cc
front_at (y ∷ xs) (suc i) x at = front_at xs i x at

-- a row and an entry stand to each other as what is left of them does, where they tie in a column
pub column_next : (o : Order) (columns : List KeyColumn) (i : ℕ) (c : KeyColumn) (rowid : ℤ) (row : Row) (v : Value) (old new : Row)
    → slice_get columns i ≡ Some c → old ≡ v ∷ new → Equal ≡ by_key (first_key o) (value_at c rowid row) v
    → entry_cmp (later o) (entry_for (drop (i + 1) columns) rowid row) new ≡ entry_cmp o (entry_for (drop i columns) rowid row) old
column_next o columns i c rowid row v old new at is even =
    let next : i + 1 ≡ suc i = omega arith in
    let front : drop i columns ≡ c ∷ drop (i + 1) columns = front_at columns i c at ∙ ap (λ n. c ∷ drop n columns) (sym next) in
    let rest = entry_for (drop (i + 1) columns) rowid row in
    let own : entry_for (drop i columns) rowid row ≡ value_at c rowid row ∷ rest = ap (λ cs. entry_for cs rowid row) front in
    ap (λ z. ordering_then z (entry_cmp (later o) rest new)) even ∙ sym (ap (λ e. entry_cmp o e old) own ∙ ap (entry_cmp o (value_at c rowid row ∷ rest)) is)

-- an entry whose only column is an integer that is a row's
pub alike_in_one : (o : Order) (columns : List KeyColumn) (rowid first : ℤ) (row entry : Row) → length columns ≡ 1 → IsKeyed (length columns) rowid entry → slice_get entry 0 ≡ Some (Int first)
    → ((c : KeyColumn) → slice_get columns 0 ≡ Some c → by_key (first_key o) (value_at c rowid row) (Int first) ≡ Equal) → entry_cmp o (entry_for columns rowid row) entry ≡ Equal
alike_in_one o [] rowid first row entry many keyed led even = absurd (omega (arith, many))
alike_in_one o (c ∷ cs) rowid first row entry many keyed led even =
    sym (column_next o (c ∷ cs) 0 c rowid row (Int first) entry (drop 1 entry) refl (front_at entry 0 (Int first) led) (sym (even c refl)))
    ∙ rowids_alike (later o) (c ∷ cs) 1 row entry (drop 1 entry) rowid (sym many) keyed refl
