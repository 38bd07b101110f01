-- The rows of a table beside the entries of its index.
use Rattle.std.proofs.Common.{◌≡◌, ◌<◌, ◌≤◌, ◌+◌, ◌⊎◌, inl, inr, ⊎_elim, ℕ, zero, suc, List, [], ◌∷◌, ◌++◌, length, get_or, slice_get, Option, Some, None, is_some, true, false, ℤ, ◌<ℤ◌, ◌≤ℤ◌, refl, sym, ap, ◌∙◌, subst, arith, length-append}
use Rattle.std.proofs.lemmas.Int.{ints}
use Rattle.std.proofs.lemmas.Bool.{cases_lt}
use Rattle.std.proofs.lemmas.List.{length-map}
use Rattle.std.proofs.lemmas.List.Sorted.{IsPermutation-refl}
use Rattle.std.proofs.lemmas.Option.{slice_get_within, slice_get-get_or}
use Rattle.sqkeys.specs.declared.key.IndexKey.{IndexKey}
use Rattle.sqindex.specs.declared.entries.Held.{Held}
use Rattle.sqindex.specs.declared.entries.Entries.{Entries}
use Rattle.sqindex.specs.declared.error.EntryError.{EntryError}
use Rattle.sqindex.specs.declared.fault.IndexFault.{IndexFault}
use Rattle.sqindex.specs.declared.fault.IndexFault.TheVariants as faults
use Rattle.sqindex.specs.Stored.{Stored}
use Rattle.sqindex.specs.Keys.{rowid_of, IsEntryOf}
use Rattle.sqindex.specs.Rules.{Rise, Match}
use Rattle.sqindex.specs.Indexes.{HasNoEntry, HasNoRow}
use Rattle.sqindex.specs.internal.Held.{held_in, entry_in, held_by}
use Rattle.sqindex.specs.internal.Judging.{IsNumbered, AreByRowid}
use Rattle.sqindex.specs.internal.Joining.{IsIn, RowRefused, PairUp, IsPassed, RowsRefused, JoinedAs, BothRefused}
use Rattle.sqindex.proofs.Places.{at_once, get_left, get_here, get_push, of_all, map_get, get_map, zip_of}
use Rattle.sqindex.proofs.RowidsOfEntries.{rowid_same}

-- what rises from each element to the next rises further on
pub far : {X : Type 0} (number : X → ℤ) (xs : List X) → ((i : ℕ) (a b : X) → slice_get xs i ≡ Some a → slice_get xs (i + 1) ≡ Some b → number a <ℤ number b)
    → (j i : ℕ) (a b : X) → i < j → slice_get xs i ≡ Some a → slice_get xs j ≡ Some b → number a <ℤ number b
far number xs near zero i a b less p q = absurd (omega (arith, less))
far number xs near (suc k) i a b less p q = ⊎_elim
    (λ (before : i < k).
    let within = slice_get_within xs (suc k) b q in
    let there = slice_get-get_or xs k a (omega (arith, within)) in
    let first = far number xs near k i a (get_or xs k a) before p there in
    let second = near k (get_or xs k a) b there (subst (λ n. slice_get xs n ≡ Some b) (omega arith) q) in
    omega (arith, ints, first, second))
    (λ (here : k ≤ i). near k a b (subst (λ n. slice_get xs n ≡ Some a) (omega (arith, less, here)) p) (subst (λ n. slice_get xs n ≡ Some b) (omega arith) q))
    (cases_lt i k)

module _ (key : IndexKey) (entries : Entries) (w : AreByRowid key entries) where
  keyed_at : (i : ℕ) (p : Held) → slice_get entries.list.items i ≡ Some p → IsNumbered key entries p
  keyed_at i p at = of_all (IsNumbered key entries) entries.list.items i p w.each at

  -- a row of an entry has its rowid
  rowid_at : (i : ℕ) (p : Held) (row : Stored) → slice_get entries.list.items i ≡ Some p → IsEntryOf key row (entry_in entries p) → rowid_of row ≡ p.rowid
  rowid_at i p row at is = rowid_same key row (entry_in entries p) p.rowid is (keyed_at i p at)

  no_entry : (rows : List Stored) (at : ℕ) (row : Stored) → length rows ≡ at → PairUp key entries rows → Rise (rows ++ row ∷ [])
      → ((p : Held) → slice_get entries.list.items at ≡ Some p → (¬ IsEntryOf key row (entry_in entries p)) × (rowid_of row ≤ℤ p.rowid)) → HasNoEntry key (held_by entries) row
  no_entry rows at row many pairs rise next j entry here is =
      let g = get_map (held_in entries.bytes.items) entries.list.items j entry here in
      let k = j in
      let is' : IsEntryOf key row (entry_in entries g.0) = subst (λ z. IsEntryOf key row z) g.2 is in
      let mine : rowid_of row ≡ g.0.rowid = rowid_at k g.0 row g.1 is' in
      let within = slice_get_within entries.list.items k g.0 g.1 in
      ⊎_elim
      (λ (before : k < at).
      let there = slice_get-get_or rows k row (omega (arith, before, many)) in
      let other = get_or rows k row in
      let theirs : rowid_of other ≡ g.0.rowid = rowid_at k g.0 other g.1 (pairs k other g.0 there g.1) in
      let less : rowid_of other <ℤ rowid_of row = far rowid_of (rows ++ row ∷ []) rise (length rows) k other row (omega (arith, before, many)) (get_left rows (row ∷ []) k other there) (get_here rows row []) in
      omega (arith, ints, mine, theirs, less))
      (λ (behind : at ≤ k). ⊎_elim
      (λ (further : at < k).
      let there = slice_get-get_or entries.list.items at g.0 (omega (arith, further, within)) in
      let first = get_or entries.list.items at g.0 in
      let up : first.rowid <ℤ g.0.rowid = far (λ (p : Held). p.rowid) entries.list.items w.rise k at first g.0 further there g.1 in
      let low = (next first there).1 in
      omega (arith, ints, mine, up, low))
      (λ (same : k ≤ at). (next g.0 (subst (λ n. slice_get entries.list.items n ≡ Some g.0) (omega (arith, same, behind)) g.1)).0 is')
      (cases_lt at k))
      (cases_lt k at)

  no_row : (rows : List Stored) (at : ℕ) (p : Held) → length rows ≡ at → PairUp key entries rows → slice_get entries.list.items at ≡ Some p → HasNoRow key rows (entry_in entries p)
  no_row rows at p many pairs here j row there is =
      let within = slice_get_within rows j row there in
      let reach = slice_get_within entries.list.items at p here in
      let q = get_or entries.list.items j p in
      let mine = slice_get-get_or entries.list.items j p (omega (arith, within, many, reach)) in
      let one : rowid_of row ≡ p.rowid = rowid_at at p row here is in
      let two : rowid_of row ≡ q.rowid = rowid_at j q row mine (pairs j row q there mine) in
      let up : q.rowid <ℤ p.rowid = far (λ (p : Held). p.rowid) entries.list.items w.rise at j q p (omega (arith, within, many)) mine here in
      omega (arith, ints, one, two, up)

  no_row_push : (rows : List Stored) (p : Held) (row : Stored) → IsNumbered key entries p → HasNoRow key rows (entry_in entries p) → p.rowid <ℤ rowid_of row → HasNoRow key (rows ++ row ∷ []) (entry_in entries p)
  no_row_push rows p row n none above j other there is = ⊎_elim
      (λ old. none j other old is)
      (λ new. let same = rowid_same key other (entry_in entries p) p.rowid is n in
      let e : rowid_of other ≡ rowid_of row = ap rowid_of new.1 in
      omega (arith, ints, same, e, above))
      (get_push rows row j other there)

  passed_push : (rows : List Stored) (row : Stored) (rowid : ℤ) → rowid <ℤ rowid_of row → IsPassed (rows ++ row ∷ []) rowid
  passed_push rows row rowid above = (length rows, row, omega (arith, length-append rows (row ∷ [])), get_here rows row [], above)

  pub joined_next : (rows : List Stored) (at : ℕ) (row : Stored) (p : Held) → JoinedAs key entries rows at None → slice_get entries.list.items at ≡ Some p → IsEntryOf key row (entry_in entries p)
      → JoinedAs key entries (rows ++ row ∷ []) (at + 1) None
  joined_next rows at row p j here is = (
    (let e = j.0 in omega (arith, e, length-append rows (row ∷ []))),
    (let within = slice_get_within entries.list.items at p here in omega (arith, within)),
    λ i other q there mine. ⊎_elim
        (λ old. j.2 i other q old mine)
        (λ new.
        let place : i ≡ at = new.0 ∙ j.0 in
        let same : q ≡ p = at_once_ps i q p mine (subst (λ n. slice_get entries.list.items n ≡ Some p) (sym place) here) in
        subst (λ z. IsEntryOf key z (entry_in entries q)) (sym new.1) (subst (λ (z : Held). IsEntryOf key row (entry_in entries z)) (sym same) is))
        (get_push rows row i other there),
  )
    where
      at_once_ps : (i : ℕ) (a b : Held) → slice_get entries.list.items i ≡ Some a → slice_get entries.list.items i ≡ Some b → a ≡ b
      at_once_ps i a b u v = at_once entries.list.items i a b u v

  pub joined_fault : (rows : List Stored) (at : ℕ) (row : Stored) (fault : IndexFault) (page cell : ℕ) → JoinedAs key entries rows at None → Rise (rows ++ row ∷ [])
      → RowRefused key entries at row fault page cell → RowsRefused key entries (rows ++ row ∷ []) fault page cell
  joined_fault rows at row faults.RowWithoutEntry page cell j rise h = (length rows, row, get_here rows row [], h.0, no_entry rows at row j.0 j.2 rise h.1)
  joined_fault rows at row faults.EntryOfNoRow page cell j rise h = (
    at,
    h.0,
    h.1,
    h.2,
    no_row_push rows h.0 row (keyed_at at h.0 h.1) (no_row rows at h.0 j.0 j.2 h.1) h.3,
    passed_push rows row h.0.rowid h.3,
  )
  joined_fault rows at row faults.EntryForm page cell j rise h = absurd h
  joined_fault rows at row faults.EntryOrder page cell j rise h = absurd h
  joined_fault rows at row faults.KeyTwice page cell j rise h = absurd h
  joined_fault rows at row faults.RowTwice page cell j rise h = absurd h

  pub fault_stays : (rows : List Stored) (row : Stored) (fault : IndexFault) (page cell : ℕ) → Rise (rows ++ row ∷ []) → RowsRefused key entries rows fault page cell → RowsRefused key entries (rows ++ row ∷ []) fault page cell
  fault_stays rows row faults.RowWithoutEntry page cell rise h = (h.0, h.1, get_left rows (row ∷ []) h.0 h.1 h.2, h.3, h.4)
  fault_stays rows row faults.EntryOfNoRow page cell rise h =
      let p = h.1 in
      let last = h.5 in
      let up : rowid_of last.1 <ℤ rowid_of row = rise last.0 last.1 row (get_left rows (row ∷ []) last.0 last.1 last.3) (subst (λ n. slice_get (rows ++ row ∷ []) n ≡ Some row) last.2 (get_here rows row [])) in
      let above : p.rowid <ℤ rowid_of row = (let low = last.4 in omega (arith, ints, up, low)) in
      (h.0, p, h.2, h.3, no_row_push rows p row (keyed_at h.0 p h.2) h.4 above, passed_push rows row p.rowid above)
  fault_stays rows row faults.EntryForm page cell rise h = absurd h
  fault_stays rows row faults.EntryOrder page cell rise h = absurd h
  fault_stays rows row faults.KeyTwice page cell rise h = absurd h
  fault_stays rows row faults.RowTwice page cell rise h = absurd h

  -- the first fault stays, and none is sound
  pub joined_still : (rows : List Stored) (row : Stored) (at : ℕ) (fault : Option EntryError) → is_some fault ≡ true → Rise (rows ++ row ∷ []) → JoinedAs key entries rows at fault
      → JoinedAs key entries (rows ++ row ∷ []) at fault
  joined_still rows row at None some rise j = absurd (cc)
  joined_still rows row at (Some e) some rise j = fault_stays rows row e.fault e.page e.cell rise j

  pub joined_sound : (rows : List Stored) (at : ℕ) (fault : Option EntryError) → is_some fault ≡ false → JoinedAs key entries rows at fault → JoinedAs key entries rows at None
  joined_sound rows at None none j = j
  joined_sound rows at (Some e) none j = absurd (cc)

  pub both_refused : (rows : List Stored) (fault : IndexFault) (page cell : ℕ) → RowsRefused key entries rows fault page cell → BothRefused key (held_by entries) rows fault page cell
  both_refused rows faults.RowWithoutEntry page cell h = h
  both_refused rows faults.EntryOfNoRow page cell h = (h.0, entry_in entries h.1, map_get (held_in entries.bytes.items) entries.list.items h.0 h.1 h.2, h.3, h.4)
  both_refused rows faults.EntryForm page cell h = absurd h
  both_refused rows faults.EntryOrder page cell h = absurd h
  both_refused rows faults.KeyTwice page cell h = absurd h
  both_refused rows faults.RowTwice page cell h = absurd h

  -- an entry is left behind the last row
  pub entry_left : (rows : List Stored) (at : ℕ) (p : Held) (page cell : ℕ) → JoinedAs key entries rows at None → slice_get entries.list.items at ≡ Some p → IsIn page cell (entry_in entries p)
      → BothRefused key (held_by entries) rows faults.EntryOfNoRow page cell
  entry_left rows at p page cell j here place = (at, entry_in entries p, map_get (held_in entries.bytes.items) entries.list.items at p here, place, no_row rows at p j.0 j.2 here)

  -- none is left
  pub matched : (rows : List Stored) (at : ℕ) → JoinedAs key entries rows at None → length entries.list.items ≤ at → Match key rows (held_by entries)
  matched rows at j end = (
    held_by entries,
    IsPermutation-refl (held_by entries),
    zip_of (IsEntryOf key) rows (held_by entries) (let a = j.0 in let b = j.1 in omega (arith, a, b, end, length-map entries.list.items (held_in entries.bytes.items)))
        (λ i row entry there here. let g = get_map (held_in entries.bytes.items) entries.list.items i entry here in subst (λ z. IsEntryOf key row z) (sym g.2) (j.2 i row g.0 there g.1)),
  )

  -- what is told behind the last row
  pub ends : (rows : List Stored) (at : ℕ) (fault : Option EntryError) (e : EntryError) → JoinedAs key entries rows at fault
      → (fault ≡ Some e) ⊎ ((fault ≡ None) × (e.fault ≡ faults.EntryOfNoRow) × (p : Held) × (slice_get entries.list.items at ≡ Some p) × IsIn e.page e.cell (entry_in entries p)) → BothRefused key (held_by entries) rows e.fault e.page e.cell
  ends rows at fault e j (inl is) = both_refused rows e.fault e.page e.cell (subst (JoinedAs key entries rows at) is j)
  ends rows at fault e j (inr h) = subst (λ (f : IndexFault). BothRefused key (held_by entries) rows f e.page e.cell) (sym h.1) (entry_left rows at h.2 e.page e.cell (subst (JoinedAs key entries rows at) h.0 j) h.3 h.4)

pub none_joined : (key : IndexKey) (entries : Entries) → JoinedAs key entries [] 0 None
none_joined key entries = (refl, omega arith, λ j row p at here. absurd (cc))
