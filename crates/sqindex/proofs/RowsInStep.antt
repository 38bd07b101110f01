-- The rows of a table and the entries of its index, as long as both go in step.
use Rattle.std.proofs.Common.{◌≡◌, ◌≤◌, ◌<◌, ◌+◌, ◌∙◌, ⊎_elim, ℕ, Bool, true, false, not, ◌&&◌, List, [], ◌∷◌, ◌++◌, length, slice_get, Option, Some, None, ℤ, int_le, refl, sym, ap, subst, arith, append-nil, append_assoc, length-append}
use Rattle.std.specs.List.{filter}
use Rattle.std.specs.Prelude.{Result, Ok, Err}
use Rattle.std.specs.declared.cmp.Ordering.TheVariants.{Equal}
use Rattle.std.proofs.lemmas.Int.{ints}
use Rattle.std.proofs.lemmas.Bool.{cases_lt}
use Rattle.std.proofs.lemmas.List.Elements.{filter-append, All-push}
use Rattle.std.proofs.lemmas.List.Sorted.{IsPermutation-refl}
use Rattle.std.proofs.lemmas.Option.{slice_get_within}
use Rattle.sqval.specs.Database.{Database}
use Rattle.sqlite_record.specs.Record.{decode}
use Rattle.sqlite_value.specs.Keys.{entry_cmp}
use Rattle.sqkeys.specs.declared.key.IndexKey.{IndexKey}
use Rattle.sqindex.specs.declared.error.IndexError.{IndexError}
use Rattle.sqindex.specs.declared.part.Part.{Part}
use Rattle.sqindex.specs.declared.rows.Ahead.{Ahead}
use Rattle.sqindex.specs.declared.rows.Ahead.TheVariants.{Unread, Row, End}
use Rattle.sqindex.specs.declared.rows.Rows.{Rows}
use Rattle.sqindex.specs.declared.stream.Stage.{Stage}
use Rattle.sqindex.specs.declared.stream.Stage.TheVariants.{InStep, InRange, Lost}
use Rattle.sqindex.specs.declared.walk.Found.{Found}
use Rattle.sqindex.specs.Stored.{Stored}
use Rattle.sqindex.specs.Keys.{entry_for, values_of, rowid_of, IsEntryOf, IsKeyed}
use Rattle.sqindex.specs.Rules.{width, Rise, HasKeyedRows, HasEntries, Match}
use Rattle.sqindex.specs.internal.Held.{held_by, plain}
use Rattle.sqindex.specs.internal.Joining.{IsLast}
use Rattle.sqindex.specs.internal.Matching.{AreMatchedTo, IsFirstPart, AreFirstRows}
use Rattle.sqindex.specs.internal.Reading.{stored_of}
use Rattle.sqindex.specs.internal.RowsGiven.{AreGiven, IsCursor, IsReadTo}
use Rattle.sqindex.specs.internal.Spans.{number_in, up_to, passed, in_span, rows_to, entries_to}
use Rattle.sqindex.specs.internal.Stepping.{AreInStep, AreInRange, IsStartOf, StepsOn, HoldsOn}
use Rattle.sqindex.proofs.CellsTaken.{has_once, taken_first}
use Rattle.sqindex.proofs.EntriesInSpans.{none_gathered}
use Rattle.sqindex.proofs.ListsKept.{at_false, all_kept, none_kept, same_kept, zip_append}
use Rattle.sqindex.proofs.Places.{at_once, get_left, get_here, get_right, of_all, zip_back}
use Rattle.sqindex.proofs.RangesMatched.{begun}
use Rattle.sqindex.proofs.RowidsOfEntries.{rowid_same}
use Rattle.sqindex.proofs.RowsGiven.{are_seen}
use Rattle.sqindex.proofs.RowsInSpans.{number_is}
use Rattle.sqindex.proofs.RowsJoined.{far}

-- what a cursor has given are the first rows
given_first : (d : Database) (table : ℕ) (rows : Rows) (given all : List Stored) → IsCursor d table rows given → HasKeyedRows d table all → (more : List Stored) × (all ≡ given ++ more)
given_first d table rows given all w has = go rows.ahead w.are
  where
    go : (ahead : Ahead) → AreGiven d table ahead rows.walk rows.last given → (more : List Stored) × (all ≡ given ++ more)
    go Unread are = let f = taken_first d table rows.walk.cells given all are.taken has.stored in (f.1, f.3)
    go (Row found) are =
        let x = stored_of found rows.walk.payload.items in
        let f = taken_first d table rows.walk.cells (given ++ x ∷ []) all are.taken has.stored in
        (x ∷ f.1, f.3 ∙ append_assoc given (x ∷ []) f.1)
    go End are = ([], has_once d table given all are.stored has.stored ∙ sym (append-nil given))

-- rows that rise, up to the last one and behind it
passed_to_last : (given : List Stored) (above : Option ℤ) → Rise given → IsLast given above → (i : ℕ) (x : Stored) → slice_get given i ≡ Some x → passed above (rowid_of x) ≡ true
passed_to_last given None rise ends i x at = absurd (let none = subst (λ (l : List Stored). slice_get l i ≡ Some x) ends at in cc)
passed_to_last given (Some r) rise ends i x at = ⊎_elim
    (λ (before : i < ends.0).
    let up = far rowid_of given rise ends.0 i x ends.1 before at ends.3 in
    let is : rowid_of ends.1 ≡ r = ends.4 in
    let goal : int_le (rowid_of x) r ≡ true = grind (arith, ints) in
    goal)
    (λ (behind : ends.0 ≤ i).
    let within = slice_get_within given i x at in
    let place : i ≡ ends.0 = omega (arith, within, behind, ends.2) in
    let same : x ≡ ends.1 = at_once given ends.0 x ends.1 (subst (λ k. slice_get given k ≡ Some x) place at) ends.3 in
    let is : rowid_of x ≡ r = ap rowid_of same ∙ ends.4 in
    let goal : int_le (rowid_of x) r ≡ true = grind (arith, ints) in
    goal)
    (cases_lt i ends.0)

not_behind_last : (given more : List Stored) (above : Option ℤ) → Rise (given ++ more) → IsLast given above → (j : ℕ) (y : Stored) → slice_get more j ≡ Some y → passed above (rowid_of y) ≡ false
not_behind_last given more None rise ends j y at = refl
not_behind_last given more (Some r) rise ends j y at =
    let here = get_left given more ends.0 ends.1 ends.3 in
    let there = get_right given more j y at in
    let up = far rowid_of (given ++ more) rise (length given + j) ends.0 ends.1 y (omega (arith, ends.2)) here there in
    let is : rowid_of ends.1 ≡ r = ends.4 in
    let goal : int_le (rowid_of y) r ≡ false = grind (arith, ints) in
    goal

each_kept : (p : Stored → Bool) (xs : List Stored) → ((i : ℕ) (x : Stored) → slice_get xs i ≡ Some x → p x ≡ true) → filter p xs ≡ xs
each_kept p xs good = same_kept p (λ x. true) xs good ∙ all_kept (λ x. true) xs (λ x. refl)

-- Where both went in step all was passed, and nothing is held.
module _ (d : Database) (table : ℕ) (key : IndexKey) (part : Part) (rows : Rows) (xs : List Stored) (w : AreInStep d table key part rows xs) where
  entry_passed : (j : ℕ) (x : Stored) → slice_get xs j ≡ Some x → passed part.span.above (number_in (width key) x) ≡ true
  entry_passed j x at =
      let z = zip_back (IsEntryOf key) w.given xs j x w.pairs at in
      let f = of_all (λ entry. (rowid : ℤ) × IsKeyed (width key) rowid (values_of entry)) xs j x w.formed at in
      ap (passed part.span.above) (number_is (width key) f.0 x f.1 ∙ sym (rowid_same key z.0 x f.0 z.2 f.1)) ∙ passed_to_last w.given part.span.above w.rise w.ends j z.0 z.1

  rows_passed : (all : List Stored) → HasKeyedRows d table all → rows_to part.span.above all ≡ w.given
  rows_passed all has =
      let g = given_first d table rows w.given all w.cursor has in
      let p : Stored → Bool = λ row. passed part.span.above (rowid_of row) in
      ap (filter p) g.1 ∙ filter-append p w.given g.0
      ∙ ap (λ (l : List Stored). filter p w.given ++ l) (none_kept p g.0 (not_behind_last w.given g.0 part.span.above (subst Rise g.1 has.rise) w.ends))
      ∙ append-nil (filter p w.given) ∙ each_kept p w.given (passed_to_last w.given part.span.above w.rise w.ends)

  pub held_in_step : AreInRange d table key part rows xs
  held_in_step =
      let n : Stored → ℤ = λ x. number_in (width key) x in
      let out : (j : ℕ) (x : Stored) → slice_get xs j ≡ Some x → in_span part.span.above part.span.last (n x) ≡ false = λ j x at.
      ap (λ (p : Bool). not p && up_to part.span.last (n x)) (entry_passed j x at) in
      let mine : entries_to key part.span.above xs ≡ xs = each_kept (λ x. passed part.span.above (n x)) xs entry_passed in
      record {
        upward = λ b is. absurd (let none = w.endless in cc);
        held = record { are = w.none ∙ sym (none_kept (λ x. in_span part.span.above part.span.last (n x)) xs out); numbered = (none_gathered key part.span part.entries w.none).numbered };
        matched = (
          (w.given, w.cursor, passed_to_last w.given part.span.above w.rise w.ends),
          λ all has. subst (λ (l : List Stored). Match key l (entries_to key part.span.above xs)) (sym (rows_passed all has))
              (subst (λ (l : List Stored). Match key w.given l) (sym mine) (xs, IsPermutation-refl xs, w.pairs)),
        );
      }

pub none_in_step : (d : Database) (table : ℕ) (key : IndexKey) (part : Part) (rows : Rows) → IsCursor d table rows [] → held_by part.entries ≡ [] → part.span.above ≡ None → part.span.last ≡ None → AreInStep d table key part rows []
none_in_step d table key part rows cursor none above last = record {
  given = [];
  cursor = cursor;
  rise = λ i a b at next. absurd (cc);
  ends = subst (IsLast []) (sym above) refl;
  pairs = tt;
  formed = λ i x less. absurd (omega (arith, less));
  none = none;
  endless = last;
}

-- one row and its entry more
pub one_in_step : (d : Database) (table : ℕ) (key : IndexKey) (part new : Part) (old rows : Rows) (xs : List Stored) (x e : Stored) (r : ℤ) (w : AreInStep d table key part old xs) → held_by new.entries ≡ held_by part.entries
    → new.span.above ≡ Some r → new.span.last ≡ None → IsCursor d table rows (w.given ++ x ∷ []) → rows.ahead ≡ Unread → rowid_of x ≡ r → IsEntryOf key x e → IsKeyed (width key) r (values_of e) → AreInStep d table key new rows (xs ++ e ∷ [])
one_in_step d table key part new old rows xs x e r w same above last cursor unread is entry keyed = record {
  given = w.given ++ x ∷ [];
  cursor = cursor;
  rise = (are_seen d table rows (w.given ++ x ∷ []) cursor unread).rise;
  ends = subst (IsLast (w.given ++ x ∷ [])) (sym above) (length w.given, x, grow, get_here w.given x [], is);
  pairs = zip_append (IsEntryOf key) w.given (x ∷ []) xs (e ∷ []) w.pairs (entry, tt);
  formed = All-push (λ entry. (rowid : ℤ) × IsKeyed (width key) rowid (values_of entry)) xs e w.formed (r, keyed);
  none = same ∙ w.none;
  endless = last;
}
  where
    grow : length (w.given ++ x ∷ []) ≡ length w.given + 1
    grow = omega (arith, length-append w.given (x ∷ []))

-- A step of both.
pub stepped : (d : Database) (table : ℕ) (key : IndexKey) (part new : Part) (old rows : Rows) (xs : List Stored) (found : Found) (r : ℤ) (bytes : List ℕ) → AreInStep d table key part old xs
    → ((given : List Stored) → IsCursor d table old given → StepsOn d table key r bytes given rows InStep) → new.entries ≡ part.entries → new.span.above ≡ Some r → new.span.last ≡ None → IsKeyed (width key) r (decode bytes)
    → IsStartOf d table key InStep new rows (xs ++ plain found bytes ∷ [])
stepped d table key part new old rows xs found r bytes w steps same above last keyed =
    let s = steps w.given w.cursor in
    let its : IsEntryOf key s.0 (plain found bytes) = subst (λ (n : ℤ). entry_cmp key.order (entry_for key.columns.items n (values_of s.0)) (decode bytes) ≡ Equal) (sym s.3) s.4 in
    one_in_step d table key part new old rows xs s.0 (plain found bytes) r w (ap held_by same) above last s.1 s.2 s.3 its keyed

-- Where a row was left for later both were in step before it.
pub left_in_step : (d : Database) (table : ℕ) (key : IndexKey) (part : Part) (old rows : Rows) (xs : List Stored) (r : ℤ) (bytes : List ℕ) → AreInStep d table key part old xs
    → ((given : List Stored) → IsCursor d table old given → StepsOn d table key r bytes given rows InRange) → AreInRange d table key part rows xs
left_in_step d table key part old rows xs r bytes w steps = held_in_step d table key part rows xs (record {
  given = w.given;
  cursor = steps w.given w.cursor;
  rise = w.rise;
  ends = w.ends;
  pairs = w.pairs;
  formed = w.formed;
  none = w.none;
  endless = w.endless;
})

-- one entry more of a range
pub held_on : (d : Database) (table : ℕ) (key : IndexKey) (old new : Part) (rows : Rows) (xs : List Stored) (found : Found) (r : ℤ) (bytes : List ℕ) (stage : Stage) → AreInRange d table key old rows xs
    → IsKeyed (width key) r (decode bytes) → HoldsOn old found r bytes new stage → IsStartOf d table key stage new rows (xs ++ plain found bytes ∷ [])
held_on d table key old new rows xs found r bytes InStep w keyed h = absurd h
held_on d table key old new rows xs found r bytes Lost w keyed h = tt
held_on d table key old new rows xs found r bytes InRange w keyed h =
    let x = plain found bytes in
    let g = h.1 in
    let test : Stored → Bool = λ x. passed old.span.above (number_in (width key) x) in
    let bad : test x ≡ false = ap (passed old.span.above) (number_is (width key) r x keyed) ∙ h.0 in
    let same : entries_to key old.span.above (xs ++ x ∷ []) ≡ entries_to key old.span.above xs =
    filter-append test xs (x ∷ []) ∙ ap (λ (l : List Stored). filter test xs ++ l) (at_false (test x) (x ∷ []) [] bad) ∙ append-nil (filter test xs) in
    record {
      upward = g.0.1 w.upward;
      held = g.1 key xs keyed w.held;
      matched = (
        subst (λ (a : Option ℤ). IsReadTo d table a rows) (sym g.0.0) w.matched.0,
        λ all has. subst (λ (a : Option ℤ). Match key (rows_to a all) (entries_to key a (xs ++ x ∷ []))) (sym g.0.0)
            (subst (λ (l : List Stored). Match key (rows_to old.span.above all) l) (sym same) (w.matched.1 all has)),
      );
    }

-- What was known of the entries is where the first range begins.
module _ (d : Database) (table index : ℕ) (key : IndexKey) (limit : ℕ) (xs : List Stored) (has : HasEntries d index xs) (part new : Part) (old : Rows) (rows : Result Rows IndexError) where
  pub begun_at : (stage : Stage) → IsStartOf d table key stage part old xs → IsFirstPart stage part new → AreFirstRows d table stage old rows → AreMatchedTo d table index key limit new.span.above xs rows
  begun_at InStep w same is = subst (λ (r : Result Rows IndexError). AreMatchedTo d table index key limit new.span.above xs r) (sym is)
      (subst (λ (p : Part). AreMatchedTo d table index key limit p.span.above xs (Ok old)) (sym same) (held_in_step d table key part old xs w).matched)
  begun_at InRange w same is = subst (λ (r : Result Rows IndexError). AreMatchedTo d table index key limit new.span.above xs r) (sym is)
      (subst (λ (p : Part). AreMatchedTo d table index key limit p.span.above xs (Ok old)) (sym same) w.matched)
  begun_at Lost w none is = go rows is
    where
      go : (rows : Result Rows IndexError) → AreFirstRows d table Lost old rows → AreMatchedTo d table index key limit new.span.above xs rows
      go (Ok cursor) is = begun d table index key limit xs has new.span.above (Ok cursor) none is tt
      go (Err e) is = begun d table index key limit xs has new.span.above (Err e) none tt (is index limit key)
