-- Entries in order, of which those of rows are marked.
use Rattle.std.proofs.Common.{◌≡◌, ◌<◌, ◌≤◌, ◌+◌, ◌-◌, ◌⊎◌, inl, inr, ⊎_elim, ℕ, zero, suc, Bool, true, false, List, [], ◌∷◌, ◌++◌, length, get_or, slice_get, Option, Some, None, is_some, refl, sym, ap, ◌∙◌, subst, arith, append_assoc, IsPermutation}
use Rattle.std.proofs.Math.ListN.{set, replicate}
use Rattle.std.proofs.lemmas.Bool.{cases_lt}
use Rattle.std.proofs.lemmas.List.Sorted.{IsPermutation-refl, IsPermutation-sym, IsPermutation-trans, IsPermutation-cons, IsPermutation-middle, IsPermutation-append_right}
use Rattle.std.proofs.lemmas.Option.{slice_get_within, slice_get-get_or, get_or_from_slice_get}
use Rattle.std.specs.List.{AllZip}
use Rattle.std.specs.Ordering.{ordering_reverse}
use Rattle.std.specs.declared.cmp.Ordering.{Ordering}
use Rattle.std.specs.declared.cmp.Ordering.TheVariants.{Less, Equal, Greater}
use Rattle.sqlite_value.specs.declared.keys.Order.{Order}
use Rattle.sqlite_value.specs.Keys.{entry_cmp}
use Rattle.sqlite_value.specs.Order.{Row}
use Rattle.sqlite_value.proofs.KeyLemmas.{entry_cmp_total}
use Rattle.sqkeys.specs.declared.entry_key.EntryKey.{EntryKey}
use Rattle.sqindex.specs.declared.error.EntryError.{EntryError}
use Rattle.sqindex.specs.Stored.{Stored}
use Rattle.sqindex.specs.Keys.{values_of}
use Rattle.sqindex.specs.Rules.{Ascend}
use Rattle.sqindex.specs.EntryIndexes.{entry_by, IsEntryBy, ArePicked, HaveEntries, HasNoOwnEntry}
use Rattle.sqindex.specs.internal.Held.{nothing}
use Rattle.sqindex.specs.internal.Judging.{at_place}
use Rattle.sqindex.specs.internal.Marking.{AreSoundBy, IsSoundBy, IsBehindBy, unmarked, IsMarked, HasNone, IsOwn, AreMarked, MarkedAs, narrowed, missing}
use Rattle.sqindex.proofs.Places.{some_once, at_once, get_left, get_here, get_push, all_of}

-- What comes before the next entry comes before all behind it.
pub far_on : (o : Order) (xs : List Stored) → Ascend o xs → (j i : ℕ) (a b : Stored) → i < j → slice_get xs i ≡ Some a → slice_get xs j ≡ Some b → entry_cmp o (values_of a) (values_of b) ≡ Less
far_on o xs near zero i a b less p q = absurd (omega (arith, less))
far_on o xs near (suc k) i a b less p q = ⊎_elim
    (λ (before : i < k).
    let within = slice_get_within xs (suc k) b q in
    let there = slice_get-get_or xs k a (omega (arith, within)) in
    let first = far_on o xs near k i a (get_or xs k a) before p there in
    let second = near k (get_or xs k a) b there (subst (λ n. slice_get xs n ≡ Some b) (omega arith) q) in
    (entry_cmp_total o).trans (values_of a) (values_of (get_or xs k a)) (values_of b) first second)
    (λ (here : k ≤ i). near k a b (subst (λ n. slice_get xs n ≡ Some a) (omega (arith, less, here)) p) (subst (λ n. slice_get xs n ≡ Some b) (omega arith) q))
    (cases_lt i k)

less_not : (r : Ordering) → r ≡ Less → r ≡ Equal → ⊥
less_not r a b = cc

greater_not : (r : Ordering) → r ≡ Greater → r ≡ Equal → ⊥
greater_not r a b = cc

-- what comes behind an entry comes behind all before it
pub behind_on : (o : Order) (r a b : Row) → entry_cmp o r b ≡ Greater → entry_cmp o a b ≡ Less → entry_cmp o r a ≡ Greater
behind_on o r a b above less =
    let total = entry_cmp_total o in
    let back : entry_cmp o b r ≡ Less = total.antisymm b r ∙ ap ordering_reverse above in
    let far = total.trans a b r less back in
    total.antisymm r a ∙ ap ordering_reverse far

module _ (key : EntryKey) (xs : List Stored) (up : Ascend key.order xs) where
  -- A row's entry stands at one place.
  pub one_place : (row : Stored) (i j : ℕ) (a b : Stored) → slice_get xs i ≡ Some a → slice_get xs j ≡ Some b → IsEntryBy key row a → IsEntryBy key row b → i ≡ j
  one_place row i j a b p q is also = ⊎_elim
      (λ (less : i < j).
      let first = far_on key.order xs up j i a b less p q in
      let tie = sym ((entry_cmp_total key.order).congr (entry_by key row) (values_of a) (values_of b) is) ∙ also in
      absurd (less_not (entry_cmp key.order (values_of a) (values_of b)) first tie))
      (λ (more : j ≤ i). ⊎_elim
      (λ (less : j < i).
      let first = far_on key.order xs up i j b a less q p in
      let tie = sym ((entry_cmp_total key.order).congr (entry_by key row) (values_of b) (values_of a) also) ∙ is in
      absurd (less_not (entry_cmp key.order (values_of b) (values_of a)) first tie))
      (λ (not : i ≤ j). omega (arith, more, not))
      (cases_lt j i))
      (cases_lt i j)

-- the places below and from another, as a search narrows them
pub none_left : (key : EntryKey) (xs : List Stored) (row : Stored) (low high : ℕ) → high ≤ low
    → ((j : ℕ) (x : Stored) → j < low → slice_get xs j ≡ Some x → entry_cmp key.order (entry_by key row) (values_of x) ≡ Greater)
    → ((j : ℕ) (x : Stored) → high ≤ j → slice_get xs j ≡ Some x → entry_cmp key.order (entry_by key row) (values_of x) ≡ Less) → HasNone key xs row
none_left key xs row low high met below above j entry at is = ⊎_elim
    (λ (less : j < low). greater_not (entry_cmp key.order (entry_by key row) (values_of entry)) (below j entry less at) is)
    (λ (more : low ≤ j). less_not (entry_cmp key.order (entry_by key row) (values_of entry)) (above j entry (omega (arith, met, more)) at) is)
    (cases_lt j low)

pub all_above : (key : EntryKey) (xs : List Stored) (row m : Stored) (middle : ℕ) → Ascend key.order xs → slice_get xs middle ≡ Some m → entry_cmp key.order (entry_by key row) (values_of m) ≡ Less
    → (j : ℕ) (x : Stored) → middle ≤ j → slice_get xs j ≡ Some x → entry_cmp key.order (entry_by key row) (values_of x) ≡ Less
all_above key xs row m middle up here less j x from at = ⊎_elim
    (λ (further : middle < j). (entry_cmp_total key.order).trans (entry_by key row) (values_of m) (values_of x) less (far_on key.order xs up j middle m x further here at))
    (λ (same : j ≤ middle).
    let is : m ≡ x = at_once xs middle m x here (subst (λ n. slice_get xs n ≡ Some x) (omega (arith, from, same)) at) in
    subst (λ (z : Stored). entry_cmp key.order (entry_by key row) (values_of z) ≡ Less) is less)
    (cases_lt middle j)

pub all_below : (key : EntryKey) (xs : List Stored) (row m : Stored) (middle : ℕ) → Ascend key.order xs → slice_get xs middle ≡ Some m → entry_cmp key.order (entry_by key row) (values_of m) ≡ Greater
    → (j : ℕ) (x : Stored) → j < middle + 1 → slice_get xs j ≡ Some x → entry_cmp key.order (entry_by key row) (values_of x) ≡ Greater
all_below key xs row m middle up here more j x to at = ⊎_elim
    (λ (before : j < middle). behind_on key.order (entry_by key row) (values_of x) (values_of m) more (far_on key.order xs up middle j x m before at here))
    (λ (same : middle ≤ j).
    let is : m ≡ x = at_once xs middle m x here (subst (λ n. slice_get xs n ≡ Some x) (omega (arith, to, same)) at) in
    subst (λ (z : Stored). entry_cmp key.order (entry_by key row) (values_of z) ≡ Greater) is more)
    (cases_lt j middle)

-- One more mark.
false_not : Some true ≡ Some false → ⊥
false_not e = cc

nothing_not : {X : Type 0} (x : X) → None ≡ Some x → ⊥
nothing_not x e = cc

pub unmarked_one : (marks : List Bool) (xs : List Stored) (at : ℕ) (x : Stored) → slice_get marks at ≡ Some false → slice_get xs at ≡ Some x → IsPermutation (unmarked marks xs) (x ∷ unmarked (set marks at true) xs)
unmarked_one [] xs at x m p = absurd (nothing_not false m)
unmarked_one (mark ∷ marks) [] at x m p = absurd (nothing_not x p)
unmarked_one (true ∷ marks) (y ∷ ys) zero x m p = absurd (false_not m)
unmarked_one (false ∷ marks) (y ∷ ys) zero x m p = subst (λ (z : Stored). IsPermutation (y ∷ unmarked marks ys) (z ∷ unmarked marks ys)) (some_once y x p) (IsPermutation-refl (y ∷ unmarked marks ys))
unmarked_one (true ∷ marks) (y ∷ ys) (suc at) x m p = unmarked_one marks ys at x m p
unmarked_one (false ∷ marks) (y ∷ ys) (suc at) x m p =
    let more = unmarked (set marks at true) ys in
    IsPermutation-trans (y ∷ unmarked marks ys) (y ∷ x ∷ more) (x ∷ y ∷ more) (IsPermutation-cons y (unmarked marks ys) (x ∷ more) (unmarked_one marks ys at x m p)) (IsPermutation-middle (y ∷ []) x more)

pub none_marked : (n : ℕ) (xs : List Stored) → unmarked (replicate n false) xs ≡ xs
none_marked zero xs = refl
none_marked (suc n) [] = refl
none_marked (suc n) (x ∷ xs) = ap (λ z. x ∷ z) (none_marked n xs)

pub all_marked : (marks : List Bool) (xs : List Stored) → length marks ≡ length xs → ((i : ℕ) (m : Bool) → slice_get marks i ≡ Some m → m ≡ true) → unmarked marks xs ≡ []
all_marked [] [] e all = refl
all_marked [] (x ∷ xs) e all = absurd (omega (arith, e))
all_marked (m ∷ marks) [] e all = refl
all_marked (true ∷ marks) (x ∷ xs) e all = all_marked marks xs (omega (arith, e)) (λ i m at. all (suc i) m at)
all_marked (false ∷ marks) (x ∷ xs) e all = absurd (let is = all 0 false refl in cc)

-- marks with one more
pub mark_kept : (marks : List Bool) (at i : ℕ) → slice_get marks i ≡ Some true → slice_get (set marks at true) i ≡ Some true
mark_kept [] at i m = absurd (nothing_not true m)
mark_kept (b ∷ marks) zero zero m = refl
mark_kept (b ∷ marks) zero (suc i) m = m
mark_kept (b ∷ marks) (suc at) zero m = m
mark_kept (b ∷ marks) (suc at) (suc i) m = mark_kept marks at i m

pub mark_new : (marks : List Bool) (at : ℕ) → at < length marks → slice_get (set marks at true) at ≡ Some true
mark_new [] at less = absurd (omega (arith, less))
mark_new (b ∷ marks) zero less = refl
mark_new (b ∷ marks) (suc at) less = mark_new marks at (omega (arith, less))

pub mark_of : (marks : List Bool) (at i : ℕ) → slice_get (set marks at true) i ≡ Some true → (slice_get marks i ≡ Some true) ⊎ (i ≡ at)
mark_of [] at i m = absurd (no_set at i m)
  where
    no_set : (at i : ℕ) → slice_get (set {A = Bool} [] at true) i ≡ Some true → ⊥
    no_set zero i m = nothing_not true m
    no_set (suc at) i m = nothing_not true m
mark_of (b ∷ marks) zero zero m = inr refl
mark_of (b ∷ marks) zero (suc i) m = inl m
mark_of (b ∷ marks) (suc at) zero m = inl m
mark_of (b ∷ marks) (suc at) (suc i) m = ⊎_elim (λ old. inl old) (λ new. inr (ap suc new)) (mark_of marks at i m)

pub marks_many : (marks : List Bool) (at : ℕ) → length (set marks at true) ≡ length marks
marks_many [] zero = refl
marks_many [] (suc at) = refl
marks_many (b ∷ marks) zero = refl
marks_many (b ∷ marks) (suc at) = ap suc (marks_many marks at)

-- rows that are picked, of one more
picked_one : (rows : List Stored) (x : Stored) → ArePicked (x ∷ []) (rows ++ x ∷ [])
picked_one [] x = inl (refl, tt)
picked_one (r ∷ rows) x = inr (picked_one rows x)

picked_push : (picked rows : List Stored) (x : Stored) → ArePicked picked rows → ArePicked (picked ++ x ∷ []) (rows ++ x ∷ [])
picked_push [] rows x h = picked_one rows x
picked_push (p ∷ picked) [] x h = absurd h
picked_push (p ∷ picked) (r ∷ rows) x h = ⊎_elim (λ one. inl (one.0, picked_push picked rows x one.1)) (λ more. inr (picked_push (p ∷ picked) rows x more)) h

picked_more : (picked rows : List Stored) (x : Stored) → ArePicked picked rows → ArePicked picked (rows ++ x ∷ [])
picked_more [] rows x h = tt
picked_more (p ∷ picked) [] x h = absurd h
picked_more (p ∷ picked) (r ∷ rows) x h = ⊎_elim (λ one. inl (one.0, picked_more picked rows x one.1)) (λ more. inr (picked_more (p ∷ picked) rows x more)) h

have_push : (partial : Bool) (picked rows : List Stored) (x : Stored) → HaveEntries partial picked rows → HaveEntries partial (picked ++ x ∷ []) (rows ++ x ∷ [])
have_push false picked rows x h = ap (λ z. z ++ x ∷ []) h
have_push true picked rows x h = picked_push picked rows x h

have_more : (partial : Bool) (picked rows : List Stored) (x : Stored) → partial ≡ true → HaveEntries partial picked rows → HaveEntries partial picked (rows ++ x ∷ [])
have_more false picked rows x e h = absurd (cc)
have_more true picked rows x e h = picked_more picked rows x h

pub zip_push : {A B : Type 0} (R : A → B → Type 0) (xs : List A) (ys : List B) (x : A) (y : B) → AllZip R xs ys → R x y → AllZip R (xs ++ x ∷ []) (ys ++ y ∷ [])
zip_push R [] [] x y all one = (one, tt)
zip_push R [] (b ∷ ys) x y all one = absurd all
zip_push R (a ∷ xs) [] x y all one = absurd all
zip_push R (a ∷ xs) (b ∷ ys) x y all one = (all.0, zip_push R xs ys x y all.1 one)

none_have : (partial : Bool) → HaveEntries partial [] []
none_have true = tt
none_have false = refl

module _ (key : EntryKey) (xs : List Stored) where
  pub none_yet : (marks : List Bool) (fault : Option EntryError) → fault ≡ None → marks ≡ replicate (length xs) false → length (replicate (length xs) false) ≡ length xs → MarkedAs key xs [] marks fault
  none_yet marks None none is many = subst (AreMarked key xs []) (sym is) (record {
    many = many;
    picked = [];
    found = [];
    some = none_have key.partial;
    same = subst (λ z. IsPermutation z xs) (sym (none_marked (length xs) xs)) (IsPermutation-refl xs);
    pairs = tt;
    each = λ i row at. absurd (nothing_not row at);
    marked = λ at x m p. absurd (unmarked_at (length xs) at m);
  })
    where
      unmarked_at : (n at : ℕ) → slice_get (replicate n false) at ≡ Some true → ⊥
      unmarked_at zero at m = nothing_not true m
      unmarked_at (suc n) zero m = cc
      unmarked_at (suc n) (suc at) m = unmarked_at n at m
  none_yet marks (Some e) none is many = absurd (cc)

  each_more : (rows : List Stored) (x : Stored) (marks marks' : List Bool) → ((at : ℕ) → slice_get marks at ≡ Some true → slice_get marks' at ≡ Some true)
      → ((i : ℕ) (row : Stored) → slice_get rows i ≡ Some row → HasNone key xs row ⊎ ((at : ℕ) × IsMarked key xs marks row at)) → HasNone key xs x ⊎ ((at : ℕ) × IsMarked key xs marks' x at)
      → (i : ℕ) (row : Stored) → slice_get (rows ++ x ∷ []) i ≡ Some row → HasNone key xs row ⊎ ((at : ℕ) × IsMarked key xs marks' row at)
  each_more rows x marks marks' kept each one i row at = ⊎_elim
      (λ old. ⊎_elim (λ none. inl none) (λ m. inr (m.0, (kept m.0 m.1.0, m.1.1))) (each i row old))
      (λ new. subst (λ z. HasNone key xs z ⊎ ((at : ℕ) × IsMarked key xs marks' z at)) (sym new.1) one)
      (get_push rows x i row at)

  -- the entry of one more row is marked
  pub one_marked : (rows : List Stored) (x : Stored) (marks : List Bool) (at : ℕ) → AreMarked key xs rows marks → slice_get marks at ≡ Some false → IsOwn key xs x at → AreMarked key xs (rows ++ x ∷ []) (set marks at true)
  one_marked rows x marks at w free own =
      let y = own.0 in
      let more = unmarked (set marks at true) xs in
      let step = IsPermutation-append_right w.found (unmarked marks xs) (y ∷ more) (unmarked_one marks xs at y free own.1) in
      record {
        many = marks_many marks at ∙ w.many;
        picked = w.picked ++ x ∷ [];
        found = w.found ++ y ∷ [];
        some = have_push key.partial w.picked rows x w.some;
        same = subst (λ z. IsPermutation z xs) (sym (append_assoc w.found (y ∷ []) more))
            (IsPermutation-trans (w.found ++ y ∷ more) (w.found ++ unmarked marks xs) xs (IsPermutation-sym (w.found ++ unmarked marks xs) (w.found ++ y ∷ more) step) w.same);
        pairs = zip_push (IsEntryBy key) w.picked w.found x y w.pairs own.2;
        each = each_more rows x marks (set marks at true) (λ i m. mark_kept marks at i m) w.each (inr (at, (mark_new marks at (slice_get_within marks at false free), own)));
        marked = λ i z m p. ⊎_elim
            (λ old. let was = w.marked i z old p in (was.0, was.1, get_left rows (x ∷ []) was.0 was.1 was.2, was.3))
            (λ new.
            let is : y ≡ z = at_once xs at y z own.1 (subst (λ n. slice_get xs n ≡ Some z) new p) in
            (length rows, x, get_here rows x [], subst (λ (z : Stored). IsEntryBy key x z) is own.2))
            (mark_of marks at i m);
      }

  -- a row of a partial index has none, or one that is marked
  pub one_passed : (rows : List Stored) (x : Stored) (marks : List Bool) → key.partial ≡ true → AreMarked key xs rows marks → HasNone key xs x ⊎ ((at : ℕ) × IsMarked key xs marks x at) → AreMarked key xs (rows ++ x ∷ []) marks
  one_passed rows x marks some w one = record {
    many = w.many;
    picked = w.picked;
    found = w.found;
    some = have_more key.partial w.picked rows x some w.some;
    same = w.same;
    pairs = w.pairs;
    each = each_more rows x marks marks (λ i m. m) w.each one;
    marked = λ i z m p. let was = w.marked i z m p in (was.0, was.1, get_left rows (x ∷ []) was.0 was.1 was.2, was.3);
  }

  -- it has no entry of its own
  pub no_own : (up : Ascend key.order xs) (rows : List Stored) (x : Stored) (marks : List Bool) → AreMarked key xs rows marks → HasNone key xs x ⊎ ((at : ℕ) × IsMarked key xs marks x at)
      → HasNoOwnEntry key (rows ++ x ∷ []) xs (length rows) x
  no_own up rows x marks w one j entry at is = ⊎_elim
      (λ none. absurd (none j entry at is))
      (λ m.
      let place : m.0 ≡ j = one_place key xs up x m.0 j m.1.1.0 entry m.1.1.1 at m.1.1.2 is in
      let was = w.marked j entry (subst (λ n. slice_get marks n ≡ Some true) place m.1.0) at in
      (was.0, was.1, slice_get_within rows was.0 was.1 was.2, get_left rows (x ∷ []) was.0 was.1 was.2, was.3))
      one

  -- a row that has no entry of its own, in a partial index or another
  pub one_missing : (up : Ascend key.order xs) (rows : List Stored) (x : Stored) (marks : List Bool) (f : Option EntryError) → AreMarked key xs rows marks → HasNone key xs x ⊎ ((at : ℕ) × IsMarked key xs marks x at)
      → f ≡ missing key.partial x.page x.cell → MarkedAs key xs (rows ++ x ∷ []) marks f
  one_missing up rows x marks f w one is = go key.partial refl
    where
      go : (b : Bool) → key.partial ≡ b → MarkedAs key xs (rows ++ x ∷ []) marks f
      go true e = subst (MarkedAs key xs (rows ++ x ∷ []) marks) (sym (is ∙ ap (λ b. missing b x.page x.cell) e)) (one_passed rows x marks e w one)
      go false e = subst (MarkedAs key xs (rows ++ x ∷ []) marks) (sym (is ∙ ap (λ b. missing b x.page x.cell) e))
          (e, refl, length rows, x, get_here rows x [], refl, refl, no_own up rows x marks w one)

  own_stays : (rows : List Stored) (y x : Stored) (i : ℕ) → HasNoOwnEntry key rows xs i x → HasNoOwnEntry key (rows ++ y ∷ []) xs i x
  own_stays rows y x i h j entry at is = let was = h j entry at is in (was.0, was.1, was.2, get_left rows (y ∷ []) was.0 was.1 was.3, was.4)

  -- the first fault stays
  pub marked_still : (rows : List Stored) (x : Stored) (marks : List Bool) (fault : Option EntryError) → is_some fault ≡ true → MarkedAs key xs rows marks fault → MarkedAs key xs (rows ++ x ∷ []) marks fault
  marked_still rows x marks None some w = absurd (cc)
  marked_still rows x marks (Some e) some w = (w.0, w.1, w.2, w.3, get_left rows (x ∷ []) w.2 w.3 w.4, w.5, w.6, own_stays rows x w.3 w.2 w.7)

  pub marked_sound : (rows : List Stored) (marks : List Bool) (fault : Option EntryError) → is_some fault ≡ false → MarkedAs key xs rows marks fault → AreMarked key xs rows marks
  marked_sound rows marks None none w = w
  marked_sound rows marks (Some e) none w = absurd (cc)

-- entries that are sound one after another
pub sound_by : (key : EntryKey) (xs : List Stored) → ((j : ℕ) → j < length xs → IsSoundBy key xs j) → AreSoundBy key xs
sound_by key xs each = record {
  formed = all_of (λ entry. length (values_of entry) ≡ length key.columns.items) xs
      (λ i x at. subst (λ (z : Stored). length (values_of z) ≡ length key.columns.items) (get_or_from_slice_get xs i x nothing at) (each i (slice_get_within xs i x at)).wide);
  ascend = λ i a b at next. (behind i a b at next).behind;
  apart = λ unique i a b at next. (behind i a b at next).apart unique;
}
  where
    behind : (i : ℕ) (a b : Stored) → slice_get xs i ≡ Some a → slice_get xs (i + 1) ≡ Some b → IsBehindBy key (values_of a) (values_of b)
    behind i a b at next =
        subst (λ (z : Stored). IsBehindBy key (values_of z) (values_of b)) (get_or_from_slice_get xs i a nothing at)
        (subst (λ (z : Stored). IsBehindBy key (values_of (at_place xs i)) (values_of z)) (get_or_from_slice_get xs (i + 1) b nothing next) ((each (i + 1) (slice_get_within xs (i + 1) b next)).behind i refl))

-- a search that goes on narrows
module _ (key : EntryKey) (xs : List Stored) (row : Stored) (low middle high : ℕ) (from : low ≤ middle) (to : middle < high) (within : high ≤ length xs) where
  pub smaller : (o : Ordering) → (o ≡ Equal → ⊥) → (p : ℕ × ℕ) → p ≡ narrowed o low middle high → p.1 - p.0 < high - low
  smaller Less other p is = let a : p.0 ≡ low = ap (λ (q : ℕ × ℕ). q.0) is in let b : p.1 ≡ middle = ap (λ (q : ℕ × ℕ). q.1) is in omega (arith, a, b, from, to)
  smaller Equal other p is = absurd (other refl)
  smaller Greater other p is = let a : p.0 ≡ middle + 1 = ap (λ (q : ℕ × ℕ). q.0) is in let b : p.1 ≡ high = ap (λ (q : ℕ × ℕ). q.1) is in omega (arith, a, b, from, to)

  pub ordered_on : (o : Ordering) → (p : ℕ × ℕ) → p ≡ narrowed o low middle high → (p.0 ≤ p.1) × (p.1 ≤ length xs)
  ordered_on Less p is = let a : p.0 ≡ low = ap (λ (q : ℕ × ℕ). q.0) is in let b : p.1 ≡ middle = ap (λ (q : ℕ × ℕ). q.1) is in (omega (arith, a, b, from), omega (arith, b, to, within))
  ordered_on Equal p is = let a : p.0 ≡ low = ap (λ (q : ℕ × ℕ). q.0) is in let b : p.1 ≡ high = ap (λ (q : ℕ × ℕ). q.1) is in (omega (arith, a, b, from, to), omega (arith, b, within))
  ordered_on Greater p is = let a : p.0 ≡ middle + 1 = ap (λ (q : ℕ × ℕ). q.0) is in let b : p.1 ≡ high = ap (λ (q : ℕ × ℕ). q.1) is in (omega (arith, a, b, to), omega (arith, b, within))

  pub below_on : (o : Ordering) (m : Stored) → Ascend key.order xs → slice_get xs middle ≡ Some m → o ≡ entry_cmp key.order (entry_by key row) (values_of m)
      → ((j : ℕ) (x : Stored) → j < low → slice_get xs j ≡ Some x → entry_cmp key.order (entry_by key row) (values_of x) ≡ Greater)
      → (p : ℕ × ℕ) → p ≡ narrowed o low middle high → (j : ℕ) (x : Stored) → j < p.0 → slice_get xs j ≡ Some x → entry_cmp key.order (entry_by key row) (values_of x) ≡ Greater
  below_on Less m up here cmp below p is j x less at = let a : p.0 ≡ low = ap (λ (q : ℕ × ℕ). q.0) is in below j x (omega (arith, a, less)) at
  below_on Equal m up here cmp below p is j x less at = let a : p.0 ≡ low = ap (λ (q : ℕ × ℕ). q.0) is in below j x (omega (arith, a, less)) at
  below_on Greater m up here cmp below p is j x less at = let a : p.0 ≡ middle + 1 = ap (λ (q : ℕ × ℕ). q.0) is in all_below key xs row m middle up here (sym cmp) j x (omega (arith, a, less)) at

  pub above_on : (o : Ordering) (m : Stored) → Ascend key.order xs → slice_get xs middle ≡ Some m → o ≡ entry_cmp key.order (entry_by key row) (values_of m)
      → ((j : ℕ) (x : Stored) → high ≤ j → slice_get xs j ≡ Some x → entry_cmp key.order (entry_by key row) (values_of x) ≡ Less)
      → (p : ℕ × ℕ) → p ≡ narrowed o low middle high → (j : ℕ) (x : Stored) → p.1 ≤ j → slice_get xs j ≡ Some x → entry_cmp key.order (entry_by key row) (values_of x) ≡ Less
  above_on Less m up here cmp above p is j x less at = let b : p.1 ≡ middle = ap (λ (q : ℕ × ℕ). q.1) is in all_above key xs row m middle up here (sym cmp) j x (omega (arith, b, less)) at
  above_on Equal m up here cmp above p is j x less at = let b : p.1 ≡ high = ap (λ (q : ℕ × ℕ). q.1) is in above j x (omega (arith, b, less)) at
  above_on Greater m up here cmp above p is j x less at = let b : p.1 ≡ high = ap (λ (q : ℕ × ℕ). q.1) is in above j x (omega (arith, b, less)) at
