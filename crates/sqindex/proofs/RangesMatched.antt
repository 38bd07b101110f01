-- The rows of a table beside the entries of a range of rowids, and one range after another.
use Rattle.std.proofs.Common.{◌≡◌, ◌≤◌, ◌∙◌, Bool, true, false, not, ◌&&◌, ℕ, ℤ, List, [], ◌∷◌, ◌++◌, length, slice_get, Option, Some, None, refl, sym, ap, subst, append-nil, IsPermutation, inl, inr}
use Rattle.std.specs.List.{filter}
use Rattle.std.specs.Prelude.{Result, Ok, Err, IfOk, IfErr, IsOk}
use Rattle.std.proofs.lemmas.List.Elements.{filter-append}
use Rattle.sqval.specs.Database.{Database}
use Rattle.sqkeys.specs.declared.key.IndexKey.{IndexKey}
use Rattle.sqindex.specs.declared.entries.Entries.{Entries}
use Rattle.sqindex.specs.declared.error.IndexError.{IndexError}
use Rattle.sqindex.specs.declared.error.IndexError.TheVariants as errors
use Rattle.sqindex.specs.declared.join.Join.{Join}
use Rattle.sqindex.specs.declared.part.Part.{Part}
use Rattle.sqindex.specs.declared.rows.Rows.{Rows}
use Rattle.sqindex.specs.Stored.{Stored}
use Rattle.sqindex.specs.Keys.{rowid_of}
use Rattle.sqindex.specs.Rules.{Rise, HasKeyedRows, HasEntries, Match, IsIndexOf}
use Rattle.sqindex.specs.Indexes.{IndexRefused}
use Rattle.sqindex.specs.internal.Held.{held_by}
use Rattle.sqindex.specs.internal.Judging.{AreByRowid, AreSoundEntries}
use Rattle.sqindex.specs.internal.Joining.{JoinedAs, IsJoined, Sees, BothRefused}
use Rattle.sqindex.specs.internal.Matching.{SeesIn, HasRowsInOrder, IsMatchedTo, CloseRefused, MatchRefusedIn, MatchesNext, AreMatchedTo, IsMatched}
use Rattle.sqindex.specs.internal.RowsGiven.{IsCursor, AreUpTo, IsReadTo}
use Rattle.sqindex.specs.internal.Parts.{PartRefused}
use Rattle.sqindex.specs.internal.Spans.{up_to, passed, in_span, rows_in, entries_in, AreOfSpan, IsOpen}
use Rattle.sqindex.specs.internal.Streaming.{StreamRefused}
use Rattle.sqindex.proofs.IndexesJudged.{stands, both}
use Rattle.sqindex.proofs.ListsKept.{at_true, at_false, none_kept}
use Rattle.sqindex.proofs.RowsInSpans.{rise_filter, rows_up, entries_up, nothing_matched, matched_more, matched_all, matched_next, fault_of_all}
use Rattle.sqindex.proofs.RowsJoined.{matched, ends}

and_false : (b : Bool) → b && false ≡ false
and_false true = refl
and_false false = refl

module _ (key : IndexKey) (part : Part) where
  -- a row of the range is beside its entries, and another one isn't
  pub seen_in : (rows : List Stored) (old : Join) (row : Stored) (new : Join) → in_span part.span.above part.span.last (rowid_of row) ≡ true
      → ((some : List Stored) → Sees key part.entries some old row new) → SeesIn key part rows old row new
  seen_in rows old row new inside see = λ w rise j.
      let p : Stored → Bool = λ row. in_span part.span.above part.span.last (rowid_of row) in
      let more : rows_in part.span (rows ++ row ∷ []) ≡ rows_in part.span rows ++ row ∷ [] =
      filter-append p rows (row ∷ []) ∙ ap (λ (l : List Stored). filter p rows ++ l) (at_true (p row) (row ∷ []) [] inside) in
      subst (λ (l : List Stored). IsJoined key part.entries l new) (sym more) (see (rows_in part.span rows) w (subst Rise more (rise_filter p (rows ++ row ∷ []) rise)) j)

  pub seen_not : (rows : List Stored) (old : Join) (row : Stored) → in_span part.span.above part.span.last (rowid_of row) ≡ false → SeesIn key part rows old row old
  seen_not rows old row out = λ w rise j.
      let p : Stored → Bool = λ row. in_span part.span.above part.span.last (rowid_of row) in
      let same : rows_in part.span (rows ++ row ∷ []) ≡ rows_in part.span rows =
      filter-append p rows (row ∷ []) ∙ ap (λ (l : List Stored). filter p rows ++ l) (at_false (p row) (row ∷ []) [] out) ∙ append-nil (filter p rows) in
      subst (λ (l : List Stored). IsJoined key part.entries l old) (sym same) j

  -- where all others are behind the range these are all that are in it
  pub rows_given : (d : Database) (table : ℕ) (given : List Stored) → AreUpTo d table part.span.last given → (all : List Stored) → HasKeyedRows d table all → rows_in part.span all ≡ rows_in part.span given
  rows_given d table given w all has =
      let p : Stored → Bool = λ row. in_span part.span.above part.span.last (rowid_of row) in
      let o = w.others all has in
      let out : (i : ℕ) (y : Stored) → slice_get o.0 i ≡ Some y → p y ≡ false = λ i y at.
      ap (λ (c : Bool). not (passed part.span.above (rowid_of y)) && c) (o.2 i y at) ∙ and_false (not (passed part.span.above (rowid_of y))) in
      ap (filter p) o.1 ∙ filter-append p given o.0 ∙ ap (λ (l : List Stored). filter p given ++ l) (none_kept p o.0 out) ∙ append-nil (filter p given)

  pub matched_to : AreByRowid key part.entries → (d : Database) (table : ℕ) (rows : Rows) (given : List Stored) (join : Join) → IsCursor d table rows given → AreUpTo d table part.span.last given
      → IsJoined key part.entries (rows_in part.span given) join → join.fault ≡ None → length part.entries.list.items ≤ join.at
      → ((i : ℕ) (row : Stored) → slice_get given i ≡ Some row → up_to part.span.last (rowid_of row) ≡ true) → IsMatchedTo d table key part rows
  matched_to w d table rows given join cursor ends j sound all up =
      let m = matched key part.entries w (rows_in part.span given) join.at (subst (JoinedAs key part.entries (rows_in part.span given) join.at) sound j) all in (
        (
          λ none. (given, ends.whole none),
          λ other keyed. subst (λ (l : List Stored). Match key l (held_by part.entries)) (sym (rows_given d table given ends other keyed)) m,
        ),
        λ b is. (given, cursor, λ i row at. subst (λ (o : Option ℤ). up_to o (rowid_of row) ≡ true) is (up i row at)),
      )

  pub not_closed : AreByRowid key part.entries → (d : Database) (table : ℕ) (given : List Stored) (join : Join) (e : IndexError) → AreUpTo d table part.span.last given
      → IsJoined key part.entries (rows_in part.span given) join → CloseRefused d table part.entries join e → MatchRefusedIn d table key part e
  not_closed w d table given join e ends' j (inl h) = subst (MatchRefusedIn d table key part) (sym h.1) h.2
  not_closed w d table given join (errors.Table e) ends' j (inr h) = absurd h.0
  not_closed w d table given join (errors.Index e) ends' j (inr h) = absurd h.0
  not_closed w d table given join errors.TooLarge ends' j (inr h) = absurd h.0
  not_closed w d table given join (errors.Entry e) ends' j (inr h) =
      let all = h.1 in (
        all.0,
        all.1,
        subst (λ (l : List Stored). BothRefused key (held_by part.entries) l e.fault e.page e.cell) (sym (rows_given d table given ends' all.0 all.1))
            (ends key part.entries w (rows_in part.span given) join.at join.fault e j h.0),
      )

module _ (d : Database) (table index : ℕ) (key : IndexKey) (limit : ℕ) (xs : List Stored) (has : HasEntries d index xs) where
  -- why a range isn't matched is why the index isn't
  pub refused_in : AreSoundEntries key xs → (part : Part) (e : IndexError) → IsPermutation (held_by part.entries) (entries_in key part.span xs) → MatchRefusedIn d table key part e → IndexRefused d table index key limit e
  refused_in sound part (errors.Table e) same h = h
  refused_in sound part (errors.Index e) same h = absurd h
  refused_in sound part (errors.Entry e) same h =
      both d table index key limit xs h.0 e.fault e.page e.cell has h.1 (fault_of_all key part.span h.0 xs (held_by part.entries) sound.formed same e.fault e.page e.cell h.2)
  refused_in sound part errors.TooLarge same h = absurd h

  pub part_refused : (e : IndexError) → PartRefused d index key limit e → IndexRefused d table index key limit e
  part_refused (errors.Table e) h = absurd h
  part_refused (errors.Index e) h = h
  part_refused (errors.Entry e) h = let s = h xs has in stands d table index key limit xs s.0 s.1 e.fault e.page e.cell has s.2 s.3 s.4 s.5
  part_refused errors.TooLarge h = absurd h

  -- nothing was matched before the first range
  pub begun : (above : Option ℤ) (new : Result Rows IndexError) → above ≡ None → IfOk new (λ rows. IsCursor d table rows []) → IfErr new (IndexRefused d table index key limit) → AreMatchedTo d table index key limit above xs new
  begun above (Ok cursor) none is refused = (([], is, λ i row at. absurd (cc)), λ rows keyed. nothing_matched key above rows xs none)
  begun above (Err e) none is refused = refused

  -- the entries and the rows up to the last one of a range
  abbrev pub AreMatchedUp : Option ℤ → Result Rows IndexError → Type 0
  AreMatchedUp last (Ok cursor) = ((b : ℤ) → last ≡ Some b → IsReadTo d table (Some b) cursor) × (last ≡ None → HasRowsInOrder d table)
      × ((rows : List Stored) → HasKeyedRows d table rows → Match key (rows_up last rows) (entries_up key last xs))
  AreMatchedUp last (Err e) = IndexRefused d table index key limit e

  -- one range more
  pub matched_up : AreSoundEntries key xs → (part : Part) (old new : Result Rows IndexError) → IsOpen part.span → IsPermutation (held_by part.entries) (entries_in key part.span xs)
      → AreMatchedTo d table index key limit part.span.above xs old → MatchesNext d table key part old new → AreMatchedUp part.span.last new
  matched_up sound part (Ok cursor) (Ok new) upward same to next =
      let m = next to.0 in
      (m.1, m.0.0, λ rows keyed. matched_more key part.span rows xs (held_by part.entries) upward keyed.rise (to.1 rows keyed) (m.0.1 rows keyed) same)
  matched_up sound part (Ok cursor) (Err e) upward same to next = refused_in sound part e same (next to.0)
  matched_up sound part (Err f) new upward same to next = subst (AreMatchedUp part.span.last) (sym next) to

  -- the same of a range that was sorted
  pub span_matched : AreSoundEntries key xs → (part : Part) (entries : Entries) (old new : Result Rows IndexError) → AreOfSpan key part.span part.entries xs → IsOpen part.span
      → IsPermutation (held_by entries) (held_by part.entries) → AreMatchedTo d table index key limit part.span.above xs old
      → MatchesNext d table key (record { entries = entries; span = part.span }) old new → AreMatchedUp part.span.last new
  span_matched sound part entries old new are upward sorted to next =
      matched_up sound (record { entries = entries; span = part.span }) old new upward (subst (IsPermutation (held_by entries)) are.are sorted) to next

  pub next_matched : (last above : Option ℤ) (b : ℤ) (new : Result Rows IndexError) → last ≡ Some b → above ≡ Some b → AreMatchedUp last new → AreMatchedTo d table index key limit above xs new
  next_matched last above b (Ok cursor) is same h =
      (subst (λ (a : Option ℤ). IsReadTo d table a cursor) (sym same) (h.0 b is), λ rows keyed. matched_next key last above b rows xs is same (h.2 rows keyed))
  next_matched last above b (Err e) is same h = h

  pub all_matched : (last : Option ℤ) (new : Result Rows IndexError) → last ≡ None → IsOk new → AreMatchedUp last new → IsMatched d table key xs
  all_matched last (Ok cursor) none sound h =
      let r = h.1 none in
      (r.0, r.1, matched_all key last r.0 xs none (h.2 r.0 r.1))
  all_matched last (Err e) none sound h = absurd (cc)

  pub end_refused : (last : Option ℤ) (new : Result Rows IndexError) (e : IndexError) → new ≡ Err e → AreMatchedUp last new → IndexRefused d table index key limit e
  end_refused last new e is h = subst (AreMatchedUp last) is h

  pub index_of : AreSoundEntries key xs → (n : ℕ) → length xs ≡ n → IsMatched d table key xs → IsIndexOf d table index key n
  index_of sound n many m = record {
    rows = m.0;
    entries = xs;
    of_table = m.1;
    of_index = has;
    formed = sound.formed;
    ascend = sound.ascend;
    apart = sound.apart;
    match = m.2;
    many = many;
  }

-- why the entries aren't sound by themselves is why the index isn't
pub stream_refused : (d : Database) (table index : ℕ) (key : IndexKey) (limit : ℕ) (e : IndexError) → StreamRefused d index key limit e → IndexRefused d table index key limit e
stream_refused d table index key limit (errors.Table e) h = absurd h
stream_refused d table index key limit (errors.Index e) h = h
stream_refused d table index key limit (errors.Entry e) h = let s = h.2 in stands d table index key limit h.0 s.0 s.1 e.fault e.page e.cell h.1 s.2 s.3 s.4 s.5
stream_refused d table index key limit errors.TooLarge h = absurd h
