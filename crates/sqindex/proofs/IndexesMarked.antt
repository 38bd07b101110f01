-- What is found of an index by all columns of its entries.
use Rattle.std.proofs.Common.{◌≡◌, ◌<◌, ◌≤◌, ◌+◌, inl, inr, ⊎_elim, ℕ, zero, suc, Bool, true, false, cond, List, [], ◌∷◌, ◌++◌, length, slice_get, Option, Some, refl, sym, ap, ◌∙◌, subst, arith, append-nil, All, IsPermutation, count_by}
use Rattle.std.specs.Prelude.{Result, Ok, Err, OnOk, IfErr}
use Rattle.std.proofs.lemmas.Bool.{cases_Bool}
use Rattle.std.proofs.lemmas.List.Sums.{sum_by-cons}
use Rattle.std.proofs.lemmas.List.Sorted.{Contains-permutation, IsPermutation-sym, sum_by-IsPermutation}
use Rattle.std.specs.Ordering.{ordering_reverse}
use Rattle.std.specs.declared.cmp.Ordering.{Ordering}
use Rattle.std.specs.declared.cmp.Ordering.TheVariants.{Less, Equal, Greater}
use Rattle.sqval.specs.Database.{Database}
use Rattle.sqval.specs.Record.{most_bytes}
use Rattle.sqlite_value.specs.Keys.{entry_cmp}
use Rattle.sqlite_value.proofs.KeyLemmas.{entry_cmp_total}
use Rattle.sqkeys.specs.declared.entry_key.EntryKey.{EntryKey}
use Rattle.sqindex.specs.declared.error.EntryError.{EntryError}
use Rattle.sqindex.specs.declared.error.IndexError.{IndexError}
use Rattle.sqindex.specs.declared.error.IndexError.TheVariants as errors
use Rattle.sqindex.specs.declared.fault.IndexFault.{IndexFault}
use Rattle.sqindex.specs.declared.fault.IndexFault.TheVariants as faults
use Rattle.sqindex.specs.declared.marks.Marks.{Marks}
use Rattle.sqindex.specs.Stored.{Stored}
use Rattle.sqindex.specs.Keys.{values_of}
use Rattle.sqindex.specs.Rules.{Ascend, HasEntries}
use Rattle.sqindex.specs.Indexes.{NoEntries}
use Rattle.sqindex.specs.EntryIndexes.{HasRows, IsEntryBy, ArePicked, HaveEntries, MatchBy, IsIndexBy, EntryIsWrong, HasNoOwnEntry, IsOfNoRow, StandsBy, NoRowsOf, IndexRefusedBy, RefutesIndexBy}
use Rattle.sqindex.specs.internal.Judging.{EntriesRefused}
use Rattle.sqindex.specs.internal.Marking.{AreSoundBy, WrongBy, AreMarked, MarkedAs, IsMarkedBy, PairRefused, AreMatchedBy, NotMatchedBy, EndRefusedBy, EndsBy}
use Rattle.sqindex.proofs.CellsTaken.{has_once}
use Rattle.sqindex.proofs.IndexesRefuted.{unlimited}
use Rattle.sqindex.proofs.Places.{at_once, some_once, of_all, contained, place_of, zip_at, zip_back}
use Rattle.sqindex.proofs.EntriesMarked.{far_on, one_place, all_marked}

module _ (key : EntryKey) (xs : List Stored) (sound : AreSoundBy key xs) where
  matched : (rows : List Stored) (marks : Marks) → AreMarked key xs rows marks.taken.items → All (λ mark. mark ≡ true) marks.taken.items → MatchBy key rows xs
  matched rows marks w all =
      let none = all_marked marks.taken.items xs w.many (λ i m at. of_all (λ mark. mark ≡ true) marks.taken.items i m all at) in
      (w.picked, w.found, w.some, subst (λ z. IsPermutation z xs) (ap (λ z. w.found ++ z) none ∙ append-nil w.found) w.same, w.pairs)

  true_false : (o : Option Bool) → o ≡ Some true → o ≡ Some false → ⊥
  true_false o a b = cc

  left_over : (rows : List Stored) (marks : List Bool) (i : ℕ) (x : Stored) → AreMarked key xs rows marks → slice_get marks i ≡ Some false → slice_get xs i ≡ Some x → IsOfNoRow key rows x
  left_over rows marks i x w free at j row there is = ⊎_elim
      (λ none. none i x at is)
      (λ m.
      let place : m.0 ≡ i = one_place key xs sound.ascend row m.0 i m.1.1.0 x m.1.1.1 at m.1.1.2 is in
      true_false (slice_get marks i) (subst (λ n. slice_get marks n ≡ Some true) place m.1.0) free)
      (w.each j row there)

  ends : (rows : List Stored) (marks : Marks) (e : EntryError) → IsMarkedBy key xs rows marks → EndRefusedBy xs marks (errors.Entry e) → PairRefused key xs rows e
  ends rows marks e w (inl is) = inl (subst (MarkedAs key xs rows marks.taken.items) is w)
  ends rows marks e w (inr h) = inr (h.1, h.2, h.3, h.5, h.6, h.7, left_over rows marks.taken.items h.2 h.3 (subst (MarkedAs key xs rows marks.taken.items) h.0 w) h.4 h.5)

  pub ended_ok : (d : Database) (table : ℕ) (rows : List Stored) (marks : Marks) (result : Result (Unit {0}) IndexError) → HasRows d table key.without_rowid rows → IsMarkedBy key xs rows marks → EndsBy xs marks result
      → OnOk result (AreMatchedBy d table key xs)
  ended_ok d table rows marks (Ok x) has w h = (rows, has, matched rows marks (subst (MarkedAs key xs rows marks.taken.items) h.0 w) h.1)
  ended_ok d table rows marks (Err e) has w h = tt

  pub ended_err : (d : Database) (table : ℕ) (rows : List Stored) (marks : Marks) (result : Result (Unit {0}) IndexError) → HasRows d table key.without_rowid rows → IsMarkedBy key xs rows marks → EndsBy xs marks result
      → IfErr result (NotMatchedBy d table key xs)
  ended_err d table rows marks (Ok x) has w h = tt
  ended_err d table rows marks (Err (errors.Table e)) has w h = absurd h
  ended_err d table rows marks (Err (errors.Index e)) has w h = absurd h
  ended_err d table rows marks (Err errors.TooLarge) has w h = absurd h
  ended_err d table rows marks (Err (errors.Entry e)) has w h = (rows, has, ends rows marks e w h)

-- No fault stands in a sound index.
abbrev is_tie : Ordering → Bool
is_tie Less = false
is_tie Equal = true
is_tie Greater = false

tie_of : (r : Ordering) → is_tie r ≡ true → r ≡ Equal
tie_of Less e = absurd (cc)
tie_of Equal e = refl
tie_of Greater e = absurd (cc)

own_tie : (r : Ordering) → r ≡ ordering_reverse r → r ≡ Equal
own_tie Less e = absurd (cc)
own_tie Equal e = refl
own_tie Greater e = absurd (cc)

less_tie : (r : Ordering) → r ≡ Less → r ≡ Equal → ⊥
less_tie r a b = cc

module _ (test : Stored → Bool) where
  all_of : (y : Stored) (xs : List Stored) → count_by test (y ∷ xs) ≡ cond (test y) 1 0 + count_by test xs
  all_of y xs = sum_by-cons (λ z. cond (test z) 1 0) y xs

  one_if : (y : Stored) → test y ≡ true → 1 ≤ cond (test y) 1 0
  one_if y is = subst (λ (b : Bool). 1 ≤ cond b 1 0) (sym is) (omega arith)

  none_if : (y : Stored) → test y ≡ false → cond (test y) 1 0 ≤ 0
  none_if y is = subst (λ (b : Bool). cond b 1 0 ≤ 0) (sym is) (omega arith)

  few_if : (b : Bool) → cond b 1 0 ≤ 1
  few_if true = omega arith
  few_if false = omega arith

  one_passes : (xs : List Stored) (i : ℕ) (x : Stored) → slice_get xs i ≡ Some x → test x ≡ true → 1 ≤ count_by test xs
  one_passes [] i x at is = absurd (cc)
  one_passes (y ∷ xs) zero x at is =
      let all = all_of y xs in
      let one = one_if y (ap test (some_once y x at) ∙ is) in
      omega (arith, all, one)
  one_passes (y ∷ xs) (suc i) x at is =
      let all = all_of y xs in
      let rest = one_passes xs i x at is in
      omega (arith, all, rest)

  two_passes : (xs : List Stored) (h i : ℕ) (a b : Stored) → h < i → slice_get xs h ≡ Some a → slice_get xs i ≡ Some b → test a ≡ true → test b ≡ true → 2 ≤ count_by test xs
  two_passes [] h i a b less p q f g = absurd (cc)
  two_passes (y ∷ xs) h zero a b less p q f g = absurd (omega (arith, less))
  two_passes (y ∷ xs) zero (suc i) a b less p q f g =
      let all = all_of y xs in
      let one = one_if y (ap test (some_once y a p) ∙ f) in
      let rest = one_passes xs i b q g in
      omega (arith, all, one, rest)
  two_passes (y ∷ xs) (suc h) (suc i) a b less p q f g =
      let all = all_of y xs in
      let rest = two_passes xs h i a b (omega (arith, less)) p q f g in
      omega (arith, all, rest)

  no_pass : (xs : List Stored) → ((i : ℕ) (x : Stored) → slice_get xs i ≡ Some x → test x ≡ false) → count_by test xs ≤ 0
  no_pass [] none = omega arith
  no_pass (x ∷ xs) none =
      let rest = no_pass xs (λ i y at. none (suc i) y at) in
      let all = all_of x xs in
      let here = none_if x (none 0 x refl) in
      omega (arith, all, rest, here)

  false_of : (b : Bool) → (b ≡ true → ⊥) → b ≡ false
  false_of true other = absurd (other refl)
  false_of false other = refl

  one_at_most : (xs : List Stored) → ((i j : ℕ) (a b : Stored) → i < j → slice_get xs i ≡ Some a → slice_get xs j ≡ Some b → test a ≡ true → test b ≡ true → ⊥) → count_by test xs ≤ 1
  one_at_most [] apart = omega arith
  one_at_most (x ∷ xs) apart =
      let all = all_of x xs in
      let bit = few_if (test x) in
      let few = one_at_most xs (λ i j a b less p q f g. apart (suc i) (suc j) a b (omega (arith, less)) p q f g) in
      ⊎_elim
      (λ (is : test x ≡ true).
      let none = no_pass xs (λ i y at. false_of (test y) (λ also. apart 0 (suc i) x y (omega arith) refl at is also)) in
      omega (arith, all, none, bit))
      (λ (other : test x ≡ false).
      let here = none_if x other in
      omega (arith, all, few, here))
      (cases_Bool (test x))

-- a row that has an entry is one of the table
picked_in : (picked rows : List Stored) (k : ℕ) (x : Stored) → ArePicked picked rows → slice_get picked k ≡ Some x → (j : ℕ) × (slice_get rows j ≡ Some x)
picked_in [] rows k x h at = absurd (cc)
picked_in (p ∷ picked) [] k x h at = absurd h
picked_in (p ∷ picked) (r ∷ rows) zero x h at = ⊎_elim
    (λ one. (0, ap Some (sym one.0) ∙ at))
    (λ more. let there = picked_in (p ∷ picked) rows 0 x more at in (suc there.0, there.1))
    h
picked_in (p ∷ picked) (r ∷ rows) (suc k) x h at = ⊎_elim
    (λ one. let there = picked_in picked rows k x one.1 at in (suc there.0, there.1))
    (λ more. let there = picked_in (p ∷ picked) rows (suc k) x more at in (suc there.0, there.1))
    h

have_in : (partial : Bool) (picked rows : List Stored) (k : ℕ) (x : Stored) → HaveEntries partial picked rows → slice_get picked k ≡ Some x → (j : ℕ) × (slice_get rows j ≡ Some x)
have_in false picked rows k x h at = (k, subst (λ (z : List Stored). slice_get z k ≡ Some x) h at)
have_in true picked rows k x h at = picked_in picked rows k x h at

module _ (key : EntryKey) (rows entries : List Stored) (up : Ascend key.order entries) (m : MatchBy key rows entries) where
  found_at : (i : ℕ) (y : Stored) → slice_get m.1 i ≡ Some y → (j : ℕ) × (slice_get entries j ≡ Some y)
  found_at i y at = place_of entries y (Contains-permutation m.1 entries y m.3 (contained m.1 i y at))

  row_of_none : (i : ℕ) (x : Stored) → slice_get entries i ≡ Some x → IsOfNoRow key rows x → ⊥
  row_of_none i x at none =
      let there = place_of m.1 x (Contains-permutation entries m.1 x (IsPermutation-sym m.1 entries m.3) (contained entries i x at)) in
      let z = zip_back (IsEntryBy key) m.0 m.1 there.0 x m.4 there.1 in
      let row = have_in key.partial m.0 rows there.0 z.0 m.2 z.1 in
      none row.0 z.0 row.1 z.2

  twice : (y : Stored) (h i : ℕ) → h < i → slice_get m.1 h ≡ Some y → slice_get m.1 i ≡ Some y → ⊥
  twice y h i less p q =
      let o = key.order in
      let total = entry_cmp_total o in
      let test : Stored → Bool = λ x. is_tie (entry_cmp o (values_of y) (values_of x)) in
      let own : test y ≡ true = ap is_tie (own_tie (entry_cmp o (values_of y) (values_of y)) (total.antisymm (values_of y) (values_of y))) in
      let two = two_passes (λ x. is_tie (entry_cmp o (values_of y) (values_of x))) m.1 h i y y less p q own own in
      let few = one_at_most (λ x. is_tie (entry_cmp o (values_of y) (values_of x))) entries (λ i j a b before s t f g.
      let ya = tie_of (entry_cmp o (values_of y) (values_of a)) f in
      let yb = tie_of (entry_cmp o (values_of y) (values_of b)) g in
      less_tie (entry_cmp o (values_of a) (values_of b)) (far_on o entries up j i a b before s t) (sym (total.congr (values_of y) (values_of a) (values_of b) ya) ∙ yb)) in
      let same = sum_by-IsPermutation (λ (x : Stored). cond (is_tie (entry_cmp o (values_of y) (values_of x))) 1 0) m.1 entries m.3 in
      omega (arith, two, few, same)

  own_not : (i : ℕ) (x : Stored) → key.partial ≡ false → slice_get rows i ≡ Some x → HasNoOwnEntry key rows entries i x → ⊥
  own_not i x whole at none =
      let all : m.0 ≡ rows = subst (λ (b : Bool). HaveEntries b m.0 rows) whole m.2 in
      let mine = zip_at (IsEntryBy key) m.0 m.1 i x m.4 (subst (λ (z : List Stored). slice_get z i ≡ Some x) (sym all) at) in
      let y = mine.0 in
      let place = found_at i y mine.1 in
      let other = none place.0 y place.1 mine.2 in
      let theirs = zip_at (IsEntryBy key) m.0 m.1 other.0 other.1 m.4 (subst (λ (z : List Stored). slice_get z other.0 ≡ Some other.1) (sym all) other.3) in
      let there = found_at other.0 theirs.0 theirs.1 in
      let one : there.0 ≡ place.0 = one_place key entries up other.1 there.0 place.0 theirs.0 y there.1 place.1 theirs.2 other.4 in
      let same : theirs.0 ≡ y = at_once entries place.0 theirs.0 y (subst (λ n. slice_get entries n ≡ Some theirs.0) one there.1) place.1 in
      twice y other.0 i other.2 (subst (λ (z : Stored). slice_get m.1 other.0 ≡ Some z) same theirs.1) mine.1

module _ (d : Database) (table index : ℕ) (key : EntryKey) (n : ℕ) (w : IsIndexBy d table index key n) where
  entry_not : (i : ℕ) (x : Stored) (fault : IndexFault) → slice_get w.entries i ≡ Some x → EntryIsWrong key w.entries i x fault → ⊥
  entry_not i x faults.EntryForm at h = h (of_all (λ entry. length (values_of entry) ≡ length key.columns.items) w.entries i x w.formed at)
  entry_not i x faults.EntryOrder at h = h.4 (w.ascend h.0 h.1 x h.3 (subst (λ k. slice_get w.entries k ≡ Some x) h.2 at))
  entry_not i x faults.KeyTwice at h = let b = h.1 in w.apart h.0 b.0 b.1 x b.3 (subst (λ k. slice_get w.entries k ≡ Some x) b.2 at) b.4
  entry_not i x faults.RowTwice at h = absurd h
  entry_not i x faults.EntryOfNoRow at h = absurd h
  entry_not i x faults.RowWithoutEntry at h = absurd h

  same_entries : (entries : List Stored) → HasEntries d index entries → entries ≡ w.entries
  same_entries entries h = has_once d index w.entries entries w.of_index.stored h.stored

  same_rows : (rows : List Stored) → HasRows d table key.without_rowid rows → rows ≡ w.rows
  same_rows rows h = has_once d table w.rows rows w.of_table.stored h.stored

  among : (fault : IndexFault) (page cell : ℕ)
      → ((entries : List Stored) × (i : ℕ) × (x : Stored) × HasEntries d index entries × (slice_get entries i ≡ Some x) × (x.page ≡ page) × (x.cell ≡ cell) × EntryIsWrong key entries i x fault) → ⊥
  among fault page cell h =
      let same = same_entries h.0 h.3 in
      entry_not h.1 h.2 fault (subst (λ (xs : List Stored). slice_get xs h.1 ≡ Some h.2) same h.4) (subst (λ xs. EntryIsWrong key xs h.1 h.2 fault) same h.7)

  stands_not : (fault : IndexFault) (page cell : ℕ) → StandsBy d table index key fault page cell → ⊥
  stands_not faults.RowWithoutEntry page cell h =
      let rows = same_rows h.1 h.5 in
      let entries = same_entries h.2 h.6 in
      own_not key w.rows w.entries w.ascend w.match h.3 h.4 h.0 (subst (λ (xs : List Stored). slice_get xs h.3 ≡ Some h.4) rows h.7)
      (subst (λ xs. HasNoOwnEntry key w.rows xs h.3 h.4) entries (subst (λ xs. HasNoOwnEntry key xs h.2 h.3 h.4) rows h.10))
  stands_not faults.EntryOfNoRow page cell h =
      row_of_none key w.rows w.entries w.ascend w.match h.2 h.3 (subst (λ (xs : List Stored). slice_get xs h.2 ≡ Some h.3) (same_entries h.1 h.5) h.6) (subst (λ xs. IsOfNoRow key xs h.3) (same_rows h.0 h.4) h.9)
  stands_not faults.EntryForm page cell h = among faults.EntryForm page cell h
  stands_not faults.EntryOrder page cell h = among faults.EntryOrder page cell h
  stands_not faults.KeyTwice page cell h = among faults.KeyTwice page cell h
  stands_not faults.RowTwice page cell h = among faults.RowTwice page cell h

pub refuted : (d : Database) (table index : ℕ) (key : EntryKey) (limit : ℕ) (e : IndexError) → IndexRefusedBy d table index key limit e → RefutesIndexBy d table index key e
refuted d table index key limit (errors.Table e) h = λ un n w. unlimited d table most_bytes (NoRowsOf d table key.without_rowid) e h un w.rows w.of_table
refuted d table index key limit (errors.Index e) h = λ un n w. unlimited d index limit (NoEntries d index) e h un w.entries w.of_index
refuted d table index key limit (errors.Entry e) h = λ n w. stands_not d table index key n w e.fault e.page e.cell h
refuted d table index key limit errors.TooLarge h = tt

-- why it isn't found sound
module _ (d : Database) (table index : ℕ) (key : EntryKey) (limit : ℕ) where
  pub entries_refused : (e : IndexError) → EntriesRefused d index limit limit e → IndexRefusedBy d table index key limit e
  entries_refused (errors.Table e) h = absurd h
  entries_refused (errors.Index e) h = h
  entries_refused (errors.Entry e) h = absurd h
  entries_refused errors.TooLarge h = h

  stands : (xs : List Stored) (i : ℕ) (x : Stored) (fault : IndexFault) (page cell : ℕ) → HasEntries d index xs → slice_get xs i ≡ Some x → x.page ≡ page → x.cell ≡ cell → EntryIsWrong key xs i x fault → StandsBy d table index key fault page cell
  stands xs i x faults.EntryForm page cell has at p c h = (xs, i, x, has, at, p, c, h)
  stands xs i x faults.EntryOrder page cell has at p c h = (xs, i, x, has, at, p, c, h)
  stands xs i x faults.KeyTwice page cell has at p c h = (xs, i, x, has, at, p, c, h)
  stands xs i x faults.RowTwice page cell has at p c h = (xs, i, x, has, at, p, c, h)
  stands xs i x faults.EntryOfNoRow page cell has at p c h = absurd h
  stands xs i x faults.RowWithoutEntry page cell has at p c h = absurd h

  pub wrong_refused : (xs : List Stored) (e : EntryError) → HasEntries d index xs → WrongBy key xs e → IndexRefusedBy d table index key limit (errors.Entry e)
  wrong_refused xs e has h = stands xs h.0 h.1 e.fault e.page e.cell has h.2 h.3 h.4 h.5

  pair_stands : (xs rows : List Stored) (e : EntryError) → HasEntries d index xs → HasRows d table key.without_rowid rows → PairRefused key xs rows e → StandsBy d table index key e.fault e.page e.cell
  pair_stands xs rows e has of (inl h) = subst (λ (f : IndexFault). StandsBy d table index key f e.page e.cell) (sym h.1) (h.0, rows, xs, h.2, h.3, of, has, h.4, h.5, h.6, h.7)
  pair_stands xs rows e has of (inr h) = subst (λ (f : IndexFault). StandsBy d table index key f e.page e.cell) (sym h.0) (rows, xs, h.1, h.2, of, has, h.3, h.4, h.5, h.6)

  pub match_refused : (xs : List Stored) (e : IndexError) → HasEntries d index xs → NotMatchedBy d table key xs e → IndexRefusedBy d table index key limit e
  match_refused xs (errors.Table e) has h = h
  match_refused xs (errors.Index e) has h = absurd h
  match_refused xs (errors.Entry e) has h = pair_stands xs h.0 e has h.1 h.2
  match_refused xs errors.TooLarge has h = absurd h

  pub index_by : (xs : List Stored) → HasEntries d index xs → AreSoundBy key xs → AreMatchedBy d table key xs → IsIndexBy d table index key (length xs)
  index_by xs has w m = record { rows = m.0; entries = xs; of_table = m.1; of_index = has; formed = w.formed; ascend = w.ascend; apart = w.apart; match = m.2; many = refl }
