-- Rows and entries in ranges of rowids.
use Rattle.std.proofs.Common.{◌≡◌, ◌+◌, ◌∙◌, ⊎_elim, ℕ, zero, suc, Bool, true, false, not, ◌&&◌, List, [], ◌∷◌, ◌++◌, slice_get, Option, Some, None, ℤ, ◌<ℤ◌, int_le, refl, sym, ap, subst, arith, IsPermutation}
use Rattle.std.specs.List.{AllZip, filter}
use Rattle.std.proofs.lemmas.Int.{ints}
use Rattle.std.proofs.lemmas.Bool.{cases_Bool}
use Rattle.std.proofs.lemmas.Option.{get_or_from_slice_get}
use Rattle.std.proofs.lemmas.List.Sorted.{IsPermutation-refl, IsPermutation-sym, IsPermutation-trans, IsPermutation-cons, IsPermutation-middle, IsPermutation-append, Contains-permutation}
use Rattle.sqlite_value.specs.declared.value.Value.TheVariants.{Null, Int}
use Rattle.sqkeys.specs.declared.key.IndexKey.{IndexKey}
use Rattle.sqindex.specs.declared.fault.IndexFault.{IndexFault}
use Rattle.sqindex.specs.declared.fault.IndexFault.TheVariants as faults
use Rattle.sqindex.specs.declared.span.Span.{Span}
use Rattle.sqindex.specs.Stored.{Stored}
use Rattle.sqindex.specs.Keys.{values_of, rowid_of, IsEntryOf, IsKeyed}
use Rattle.sqindex.specs.Rules.{width, Rise, AreFormed, Match}
use Rattle.sqindex.specs.internal.Joining.{BothRefused}
use Rattle.sqindex.specs.internal.Spans.{int_of, number_in, up_to, passed, in_span, rows_in, entries_in, rows_to, entries_to, IsOpen}
use Rattle.sqindex.proofs.ListsKept.{at_true, at_false, kept_at, kept_from, all_kept, none_kept, same_kept, zip_append}
use Rattle.sqindex.proofs.Places.{some_once, of_all, contained, place_of}
use Rattle.sqindex.proofs.RowidsOfEntries.{rowid_same}
use Rattle.sqindex.proofs.RowsJoined.{far}
use Rattle.sqindex.proofs.IndexesRefuted.{rise_tail}

-- A range, and what was passed before it, are what is passed behind it.
module _ (above last : Option ℤ) (upward : (b : ℤ) → last ≡ Some b → passed above b ≡ false) (r : ℤ) where
  pub was_passed : passed above r ≡ true → (up_to last r ≡ true) × (in_span above last r ≡ false)
  was_passed good = (go above last upward good, ap (λ (p : Bool). not p && up_to last r) good)
    where
      go : (above last : Option ℤ) → ((b : ℤ) → last ≡ Some b → passed above b ≡ false) → passed above r ≡ true → up_to last r ≡ true
      go None last upward good = absurd (cc)
      go (Some a) None upward good = refl
      go (Some a) (Some b) upward good =
          let far : int_le b a ≡ false = upward b refl in
          let near : int_le r a ≡ true = good in
          grind (arith, ints)

  pub not_passed : passed above r ≡ false → up_to last r ≡ in_span above last r
  not_passed bad = sym (ap (λ (p : Bool). not p && up_to last r) bad)

pub passed_below : (above : Option ℤ) (r s : ℤ) → passed above s ≡ true → r <ℤ s → passed above r ≡ true
passed_below None r s good less = absurd (cc)
passed_below (Some a) r s good less =
    let near : int_le s a ≡ true = good in
    let goal : int_le r a ≡ true = grind (arith, ints) in
    goal

-- Rows that rise stay so.
rise_cons : (x : Stored) (xs : List Stored) → ((j : ℕ) (y : Stored) → slice_get xs j ≡ Some y → rowid_of x <ℤ rowid_of y) → Rise xs → Rise (x ∷ xs)
rise_cons x xs below rise zero a b p q = subst (λ z. rowid_of z <ℤ rowid_of b) (some_once x a p) (below 0 b q)
rise_cons x xs below rise (suc i) a b p q =
    let e : suc i + 1 ≡ suc (i + 1) = omega arith in
    rise i a b p (subst (λ n. slice_get (x ∷ xs) n ≡ Some b) e q)

pub rise_filter : (p : Stored → Bool) (rows : List Stored) → Rise rows → Rise (filter p rows)
rise_filter p [] rise = rise
rise_filter p (x ∷ xs) rise =
    let rest = rise_filter p xs (rise_tail x xs rise) in
    ⊎_elim
    (λ (is : p x ≡ true). subst Rise (sym (at_true (p x) (x ∷ filter p xs) (filter p xs) is))
    (rise_cons x (filter p xs) (λ j y at. let k = kept_from p xs j y at in far rowid_of (x ∷ xs) rise (suc k.0.0) 0 x y (omega arith) refl k.0.1) rest))
    (λ (is : p x ≡ false). subst Rise (sym (at_false (p x) (x ∷ filter p xs) (filter p xs) is)) rest)
    (cases_Bool (p x))

-- Two filters that share a third among them.
module _ {X : Type 0} (P Q R : X → Bool) (first : (x : X) → P x ≡ true → (R x ≡ true) × (Q x ≡ false)) (second : (x : X) → P x ≡ false → R x ≡ Q x) where
  kept_both : (x : X) (xs : List X) → P x ≡ true → (filter R (x ∷ xs) ≡ x ∷ filter R xs) × (filter P (x ∷ xs) ≡ x ∷ filter P xs) × (filter Q (x ∷ xs) ≡ filter Q xs)
  kept_both x xs is = (
    at_true (R x) (x ∷ filter R xs) (filter R xs) (first x is).0,
    at_true (P x) (x ∷ filter P xs) (filter P xs) is,
    at_false (Q x) (x ∷ filter Q xs) (filter Q xs) (first x is).1,
  )

  pub shared : (xs : List X) → IsPermutation (filter P xs ++ filter Q xs) (filter R xs)
  shared [] = IsPermutation-refl []
  shared (x ∷ xs) =
      let rest = shared xs in
      ⊎_elim
      (λ (is : P x ≡ true). let k = kept_both x xs is in
      subst (λ (l : List X). IsPermutation (filter P (x ∷ xs) ++ filter Q (x ∷ xs)) l) (sym k.0)
      (subst (λ (l : List X). IsPermutation (l ++ filter Q (x ∷ xs)) (x ∷ filter R xs)) (sym k.1)
      (subst (λ (l : List X). IsPermutation ((x ∷ filter P xs) ++ l) (x ∷ filter R xs)) (sym k.2)
      (IsPermutation-cons x (filter P xs ++ filter Q xs) (filter R xs) rest))))
      (λ (is : P x ≡ false). ⊎_elim
      (λ (in' : Q x ≡ true).
      subst (λ (l : List X). IsPermutation (filter P (x ∷ xs) ++ filter Q (x ∷ xs)) l) (sym (at_true (R x) (x ∷ filter R xs) (filter R xs) (second x is ∙ in')))
      (subst (λ (l : List X). IsPermutation (l ++ filter Q (x ∷ xs)) (x ∷ filter R xs)) (sym (at_false (P x) (x ∷ filter P xs) (filter P xs) is))
      (subst (λ (l : List X). IsPermutation (filter P xs ++ l) (x ∷ filter R xs)) (sym (at_true (Q x) (x ∷ filter Q xs) (filter Q xs) in'))
      (IsPermutation-trans (filter P xs ++ x ∷ filter Q xs) (x ∷ (filter P xs ++ filter Q xs)) (x ∷ filter R xs)
      (IsPermutation-middle (filter P xs) x (filter Q xs)) (IsPermutation-cons x (filter P xs ++ filter Q xs) (filter R xs) rest)))))
      (λ (out : Q x ≡ false).
      subst (λ (l : List X). IsPermutation (filter P (x ∷ xs) ++ filter Q (x ∷ xs)) l) (sym (at_false (R x) (x ∷ filter R xs) (filter R xs) (second x is ∙ out)))
      (subst (λ (l : List X). IsPermutation (l ++ filter Q (x ∷ xs)) (filter R xs)) (sym (at_false (P x) (x ∷ filter P xs) (filter P xs) is))
      (subst (λ (l : List X). IsPermutation (filter P xs ++ l) (filter R xs)) (sym (at_false (Q x) (x ∷ filter Q xs) (filter Q xs) out)) rest)))
      (cases_Bool (Q x)))
      (cases_Bool (P x))

-- Rows that rise: those that were passed come first.
module _ (P Q R : Stored → Bool) (first : (x : Stored) → P x ≡ true → (R x ≡ true) × (Q x ≡ false)) (second : (x : Stored) → P x ≡ false → R x ≡ Q x)
    (down : (x y : Stored) → P y ≡ true → rowid_of x <ℤ rowid_of y → P x ≡ true) where
  both_ways : (b : Bool) → b ≡ true → b ≡ false → ⊥
  both_ways b t f = cc

  none_behind : (x : Stored) (xs : List Stored) → Rise (x ∷ xs) → P x ≡ false → (i : ℕ) (y : Stored) → slice_get (x ∷ xs) i ≡ Some y → P y ≡ false
  none_behind x xs rise is zero y at = subst (λ (z : Stored). P z ≡ false) (some_once x y at) is
  none_behind x xs rise is (suc i) y at = ⊎_elim
      (λ (good : P y ≡ true). absurd (both_ways (P x) (down x y good (far rowid_of (x ∷ xs) rise (suc i) 0 x y (omega arith) refl at)) is))
      (λ (bad : P y ≡ false). bad)
      (cases_Bool (P y))

  pub parted : (xs : List Stored) → Rise xs → filter R xs ≡ filter P xs ++ filter Q xs
  parted [] rise = refl
  parted (x ∷ xs) rise = ⊎_elim
      (λ (is : P x ≡ true). let k = kept_both P Q R first second x xs is in
      k.0 ∙ ap (λ (l : List Stored). x ∷ l) (parted xs (rise_tail x xs rise)) ∙ sym (ap (λ (l : List Stored). l ++ filter Q (x ∷ xs)) k.1 ∙ ap (λ (l : List Stored). x ∷ (filter P xs ++ l)) k.2))
      (λ (is : P x ≡ false). let none = none_behind x xs rise is in
      same_kept R Q (x ∷ xs) (λ i y at. second y (none i y at)) ∙ sym (ap (λ (l : List Stored). l ++ filter Q (x ∷ xs)) (none_kept P (x ∷ xs) none)))
      (cases_Bool (P x))

-- the rows and the entries up to the last one of a range
abbrev pub rows_up : (last : Option ℤ) → List Stored → List Stored
rows_up last rows = filter (λ row. up_to last (rowid_of row)) rows

abbrev pub entries_up : IndexKey → (last : Option ℤ) → List Stored → List Stored
entries_up key last xs = filter (λ x. up_to last (number_in (width key) x)) xs

-- What was matched before a range and what is in it is matched behind it.
pub matched_more : (key : IndexKey) (span : Span) (rows xs held : List Stored) → IsOpen span → Rise rows → Match key (rows_to span.above rows) (entries_to key span.above xs)
    → Match key (rows_in span rows) held → IsPermutation held (entries_in key span xs) → Match key (rows_up span.last rows) (entries_up key span.last xs)
matched_more key span rows xs held upward rise m n same =
    let a = span.above in
    let b = span.last in
    let w = width key in (
      m.0 ++ n.0,
      IsPermutation-trans (m.0 ++ n.0) (entries_to key a xs ++ entries_in key span xs) (entries_up key b xs)
          (IsPermutation-append m.0 (entries_to key a xs) n.0 (entries_in key span xs) m.1 (IsPermutation-trans n.0 held (entries_in key span xs) n.1 same))
          (shared (λ x. passed a (number_in w x)) (λ x. in_span a b (number_in w x)) (λ x. up_to b (number_in w x)) (λ x. was_passed a b upward (number_in w x)) (λ x. not_passed a b upward (number_in w x)) xs),
      subst (λ (l : List Stored). AllZip (IsEntryOf key) l (m.0 ++ n.0))
          (sym (parted (λ x. passed a (rowid_of x)) (λ x. in_span a b (rowid_of x)) (λ x. up_to b (rowid_of x)) (λ x. was_passed a b upward (rowid_of x)) (λ x. not_passed a b upward (rowid_of x))
          (λ x y good less. passed_below a (rowid_of x) (rowid_of y) good less) rows rise))
          (zip_append (IsEntryOf key) (rows_to a rows) (rows_in span rows) m.0 n.0 m.2 n.2),
    )

-- at the end that is all
pub matched_all : (key : IndexKey) (last : Option ℤ) (rows xs : List Stored) → last ≡ None → Match key (rows_up last rows) (entries_up key last xs) → Match key rows xs
matched_all key last rows xs none m =
    let good : (r : ℤ) → up_to last r ≡ true = λ r. ap (λ (l : Option ℤ). up_to l r) none in
    subst (λ (l : List Stored). Match key l xs) (all_kept (λ row. up_to last (rowid_of row)) rows (λ x. good (rowid_of x)))
    (subst (λ (l : List Stored). Match key (rows_up last rows) l) (all_kept (λ x. up_to last (number_in (width key) x)) xs (λ x. good (number_in (width key) x))) m)

pub matched_next : (key : IndexKey) (last above : Option ℤ) (b : ℤ) (rows xs : List Stored) → last ≡ Some b → above ≡ Some b → Match key (rows_up last rows) (entries_up key last xs)
    → Match key (rows_to above rows) (entries_to key above xs)
matched_next key last above b rows xs is same m =
    subst (λ (l : Option ℤ). Match key (rows_to l rows) (entries_to key l xs)) (sym same) (subst (λ (l : Option ℤ). Match key (rows_up l rows) (entries_up key l xs)) is m)

pub nothing_matched : (key : IndexKey) (above : Option ℤ) (rows xs : List Stored) → above ≡ None → Match key (rows_to above rows) (entries_to key above xs)
nothing_matched key above rows xs none =
    let bad : (r : ℤ) → passed above r ≡ false = λ r. ap (λ (l : Option ℤ). passed l r) none in
    let rows' = none_kept (λ row. passed above (rowid_of row)) rows (λ i x at. bad (rowid_of x)) in
    let xs' = none_kept (λ x. passed above (number_in (width key) x)) xs (λ i x at. bad (number_in (width key) x)) in
    subst (λ (l : List Stored). Match key l (entries_to key above xs)) (sym rows') (subst (λ (l : List Stored). Match key [] l) (sym xs') ([], IsPermutation-refl [], tt))

-- the rowid of an entry
pub number_is : (n : ℕ) (r : ℤ) (x : Stored) → IsKeyed n r (values_of x) → number_in n x ≡ r
number_is n r x keyed = ap int_of (get_or_from_slice_get (values_of x) n (Int r) Null keyed.last)

-- A fault of the rows and the entries of a range is one of all.
module _ (key : IndexKey) (span : Span) (rows xs held : List Stored) (formed : AreFormed (width key) xs) (same : IsPermutation held (entries_in key span xs)) where
  of_row : (row entry : Stored) (i : ℕ) → slice_get xs i ≡ Some entry → IsEntryOf key row entry → number_in (width key) entry ≡ rowid_of row
  of_row row entry i here is =
      let f = of_all (λ entry. (rowid : ℤ) × IsKeyed (width key) rowid (values_of entry)) xs i entry formed here in
      number_is (width key) f.0 entry f.1 ∙ sym (rowid_same key row entry f.0 is f.1)

  pub fault_of_all : (fault : IndexFault) (page cell : ℕ) → BothRefused key held (rows_in span rows) fault page cell → BothRefused key xs rows fault page cell
  fault_of_all faults.RowWithoutEntry page cell h =
      let k = kept_from (λ row. in_span span.above span.last (rowid_of row)) rows h.0 h.1 h.2 in (
        k.0.0,
        h.1,
        k.0.1,
        h.3,
        λ j entry here is.
            let inside = ap (in_span span.above span.last) (of_row h.1 entry j here is) ∙ k.1 in
            let there = kept_at (λ x. in_span span.above span.last (number_in (width key) x)) xs j entry here inside in
            let back = place_of held entry (Contains-permutation (entries_in key span xs) held entry (IsPermutation-sym held (entries_in key span xs) same) (contained (entries_in key span xs) there.0 entry there.1)) in
            h.4 back.0 entry back.1 is,
      )
  fault_of_all faults.EntryOfNoRow page cell h =
      let c = place_of (entries_in key span xs) h.1 (Contains-permutation held (entries_in key span xs) h.1 same (contained held h.0 h.1 h.2)) in
      let k = kept_from (λ x. in_span span.above span.last (number_in (width key) x)) xs c.0 h.1 c.1 in (
        k.0.0,
        h.1,
        k.0.1,
        h.3,
        λ j row there is.
            let inside = ap (in_span span.above span.last) (sym (of_row row h.1 k.0.0 k.0.1 is)) ∙ k.1 in
            let here = kept_at (λ row. in_span span.above span.last (rowid_of row)) rows j row there inside in
            h.4 here.0 row here.1 is,
      )
  fault_of_all faults.EntryForm page cell h = absurd h
  fault_of_all faults.EntryOrder page cell h = absurd h
  fault_of_all faults.KeyTwice page cell h = absurd h
  fault_of_all faults.RowTwice page cell h = absurd h
