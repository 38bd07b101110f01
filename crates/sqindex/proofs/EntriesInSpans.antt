-- The entries of a range of rowids, read one after another.
use Rattle.std.proofs.Common.{◌≡◌, ◌≤◌, ◌<◌, ◌+◌, ◌∙◌, ⊎_elim, ℕ, Bool, true, false, not, ◌&&◌, cond, List, [], ◌∷◌, ◌++◌, map, length, take, get_or, slice_get, Option, Some, None, ℤ, pos, unwrap_or, int_le, refl, sym, ap, subst, arith, All, Contains, append-nil, append_assoc, count_by}
use Rattle.std.specs.List.{AllZip, filter}
use Rattle.std.proofs.lemmas.List.{length-map, take_more}
use Rattle.std.proofs.lemmas.List.Elements.{filter-append, Contains-append_left}
use Rattle.std.proofs.lemmas.Option.{slice_get-get_or, get_or_from_slice_get}
use Rattle.std.proofs.lemmas.List.Sums.{sum_by-append}
use Rattle.std.proofs.lemmas.Bool.{cases_Bool}
use Rattle.std.proofs.lemmas.Int.{ints}
use Rattle.sqval.specs.Database.{Database}
use Rattle.sqkeys.specs.declared.key.IndexKey.{IndexKey}
use Rattle.sqindex.specs.declared.entries.Held.{Held}
use Rattle.sqindex.specs.declared.entries.Entries.{Entries}
use Rattle.sqindex.specs.declared.error.EntryError.{EntryError}
use Rattle.sqindex.specs.declared.error.IndexError.{IndexError}
use Rattle.sqindex.specs.declared.error.IndexError.TheVariants as errors
use Rattle.sqindex.specs.declared.error.ReadError.TheVariants as reads
use Rattle.sqindex.specs.declared.part.Part.{Part}
use Rattle.sqindex.specs.declared.span.Span.{Span}
use Rattle.sqindex.specs.declared.walk.Found.{Found}
use Rattle.sqindex.specs.Stored.{Stored}
use Rattle.sqindex.specs.Keys.{values_of, has_rowid, IsKeyed}
use Rattle.sqindex.specs.Rules.{width, HasEntries}
use Rattle.sqindex.specs.Indexes.{EntryRefused, ReadRefused, NoEntries, IndexRefused}
use Rattle.sqindex.specs.internal.Held.{payload_in, held_in, held_by, entry_in, nothing, plain}
use Rattle.sqindex.specs.internal.Judging.{IsNumbered, TwiceRefused}
use Rattle.sqindex.specs.internal.Parts.{IsNoEntry, PartRefused, CutRefused}
use Rattle.sqindex.specs.internal.Reading.{stored_of, AreTaken}
use Rattle.sqindex.specs.internal.Spans.{number_in, up_to, passed, in_span, entries_in, IsNumberOf, KeepsTo, AreOfSpan, GoesOn}
use Rattle.sqindex.specs.internal.Streaming.{StandsAmong}
use Rattle.sqrows.specs.declared.cells.Cells.{Cells}
use Rattle.sqindex.proofs.CellsTaken.{taken_first}
use Rattle.sqindex.proofs.EntriesRead.{other_kind}
use Rattle.sqindex.proofs.IndexesJudged.{stands}
use Rattle.sqindex.proofs.ListsKept.{at_true, at_false, kept_from, fewer_kept, zip_append}
use Rattle.sqindex.proofs.Places.{at_once, get_left, get_here, all_of, map_get, zip_at, contained, place_of}
use Rattle.sqindex.proofs.RowsInSpans.{number_is}

nothing_held : (f : Held → Stored) (ps : List Held) → map f ps ≡ [] → ps ≡ []
nothing_held f [] e = refl
nothing_held f (p ∷ ps) e = absurd (cc)

pub none_gathered : (key : IndexKey) (span : Span) (entries : Entries) → held_by entries ≡ [] → AreOfSpan key span entries []
none_gathered key span entries none =
    let empty = nothing_held (held_in entries.bytes.items) entries.list.items none in
    record { are = none; numbered = subst (λ (l : List Held). AllZip (IsNumberOf key) l (held_by entries)) (sym empty) (subst (λ (l : List Stored). AllZip (IsNumberOf key) [] l) (sym none) tt) }

-- one more of the range, and one that isn't of it
pub one_gathered : (key : IndexKey) (span : Span) (old new : Entries) (seen : List Stored) (x : Stored) (p : Held) (rowid : ℤ) → AreOfSpan key span old seen → IsKeyed (width key) rowid (values_of x)
    → in_span span.above span.last rowid ≡ true → held_by new ≡ held_by old ++ x ∷ [] → new.list.items ≡ old.list.items ++ p ∷ [] → p.rowid ≡ rowid → AreOfSpan key span new (seen ++ x ∷ [])
one_gathered key span old new seen x p rowid w keyed inside held list same =
    let test : Stored → Bool = λ x. in_span span.above span.last (number_in (width key) x) in
    let good : test x ≡ true = ap (in_span span.above span.last) (number_is (width key) rowid x keyed) ∙ inside in
    record {
      are = held ∙ ap (λ (l : List Stored). l ++ x ∷ []) w.are ∙ sym (filter-append test seen (x ∷ []) ∙ ap (λ (l : List Stored). filter test seen ++ l) (at_true (test x) (x ∷ []) [] good));
      numbered = subst (λ (l : List Held). AllZip (IsNumberOf key) l (held_by new)) (sym list) (subst (λ (l : List Stored). AllZip (IsNumberOf key) (old.list.items ++ p ∷ []) l) (sym held)
          (zip_append (IsNumberOf key) old.list.items (p ∷ []) (held_by old) (x ∷ []) w.numbered (subst (λ (r : ℤ). IsKeyed (width key) r (values_of x)) (sym same) keyed, tt)));
    }

pub one_passed : (key : IndexKey) (span : Span) (entries : Entries) (seen : List Stored) (x : Stored) (rowid : ℤ) → AreOfSpan key span entries seen → IsKeyed (width key) rowid (values_of x)
    → in_span span.above span.last rowid ≡ false → AreOfSpan key span entries (seen ++ x ∷ [])
one_passed key span entries seen x rowid w keyed out =
    let test : Stored → Bool = λ x. in_span span.above span.last (number_in (width key) x) in
    let bad : test x ≡ false = ap (in_span span.above span.last) (number_is (width key) rowid x keyed) ∙ out in
    record {
      are = w.are ∙ sym (filter-append test seen (x ∷ []) ∙ ap (λ (l : List Stored). filter test seen ++ l) (at_false (test x) (x ∷ []) [] bad) ∙ append-nil (filter test seen));
      numbered = w.numbered;
    }

-- each holds the rowid that its entry ends with
pub each_numbered : (key : IndexKey) (span : Span) (entries : Entries) (seen : List Stored) → AreOfSpan key span entries seen → All (IsNumbered key entries) entries.list.items
each_numbered key span entries seen w = all_of (IsNumbered key entries) entries.list.items (λ i p at.
    let z = zip_at (IsNumberOf key) entries.list.items (held_by entries) i p w.numbered at in
    let same = at_once (held_by entries) i z.0 (entry_in entries p) z.1 (map_get (held_in entries.bytes.items) entries.list.items i p at) in
    subst (λ (x : Stored). IsKeyed (width key) p.rowid (values_of x)) same z.2)

both_ways : (b : Bool) → b ≡ true → b ≡ false → ⊥
both_ways b t f = cc

-- Two filters, one after another.
module _ {X : Type 0} (p q r : X → Bool) (out : (x : X) → q x ≡ false → r x ≡ false) (inside : (x : X) → q x ≡ true → r x ≡ p x) where
  both_kept : (xs : List X) → filter p (filter q xs) ≡ filter r xs
  both_kept [] = refl
  both_kept (x ∷ xs) =
      let rest = both_kept xs in
      ⊎_elim
      (λ (is : q x ≡ true). ap (filter p) (at_true (q x) (x ∷ filter q xs) (filter q xs) is) ∙ ap (λ (l : List X). cond (p x) (x ∷ l) l) rest ∙ ap (λ (b : Bool). cond b (x ∷ filter r xs) (filter r xs)) (sym (inside x is)))
      (λ (is : q x ≡ false). ap (filter p) (at_false (q x) (x ∷ filter q xs) (filter q xs) is) ∙ rest ∙ sym (at_false (r x) (x ∷ filter r xs) (filter r xs) (out x is)))
      (cases_Bool (q x))

-- a rowid of a range, and of what of it is up to one of it
module _ (above last : Option ℤ) (end : ℤ) (inside : in_span above last end ≡ true) where
  kept_true : (p u : Bool) → not p && u ≡ true → (p ≡ false) × (u ≡ true)
  kept_true true u e = absurd (cc)
  kept_true false u e = (refl, e)

  pub end_open : passed above end ≡ false
  end_open = (kept_true (passed above end) (up_to last end) inside).0

  sooner : (r : ℤ) → int_le r end ≡ true → up_to last r ≡ true
  sooner r near = go last (kept_true (passed above end) (up_to last end) inside).1
    where
      go : (last : Option ℤ) → up_to last end ≡ true → up_to last r ≡ true
      go None e = refl
      go (Some b) e =
          let far : int_le end b ≡ true = e in
          let close : int_le r end ≡ true = near in
          let goal : int_le r b ≡ true = grind (arith, ints) in
          goal

  cut_in : (r : ℤ) → in_span above last r ≡ true → in_span above (Some end) r ≡ up_to (Some end) r
  cut_in r is = ap (λ (p : Bool). not p && up_to (Some end) r) (kept_true (passed above r) (up_to last r) is).0

  cut_out : (r : ℤ) → in_span above last r ≡ false → in_span above (Some end) r ≡ false
  cut_out r is = go (passed above r) (up_to (Some end) r) refl
    where
      go : (p u : Bool) → u ≡ up_to (Some end) r → not (passed above r) && u ≡ false
      go p false e = ⊎_elim (λ (h : passed above r ≡ true). ap (λ (p : Bool). not p && false) h) (λ (h : passed above r ≡ false). ap (λ (p : Bool). not p && false) h) (cases_Bool (passed above r))
      go p true e = ⊎_elim
          (λ (h : passed above r ≡ true). ap (λ (p : Bool). not p && true) h)
          (λ (h : passed above r ≡ false). absurd (both_ways (in_span above last r) (ap (λ (p : Bool). not p && up_to last r) h ∙ sooner r (sym e)) is))
          (cases_Bool (passed above r))

-- a range that ends at one of its rowids
pub cut_goes : (old new : Span) (last : ℤ) → new.above ≡ old.above → new.last ≡ Some last → in_span old.above old.last last ≡ true → GoesOn old new
cut_goes old new last above ends inside = (
  above,
  λ was b is.
      let same : last ≡ b = ap (λ (o : Option ℤ). unwrap_or o (pos 0)) (sym ends ∙ is) in
      subst (λ (r : ℤ). passed new.above r ≡ false) same (ap (λ (a : Option ℤ). passed a last) above ∙ end_open old.above old.last last inside),
)

-- what is kept of a range that ends sooner
pub kept_to : (key : IndexKey) (old new : Span) (entries kept : Entries) (last : ℤ) (seen : List Stored) → AreOfSpan key old entries seen → KeepsTo last entries kept
    → new.above ≡ old.above → new.last ≡ Some last → in_span old.above old.last last ≡ true → AreOfSpan key new kept seen
kept_to key old new entries kept last seen w keeps above ends inside =
    let k = keeps key w.numbered in
    let n : Stored → ℤ = λ x. number_in (width key) x in
    let narrow : filter (λ x. up_to (Some last) (n x)) (filter (λ x. in_span old.above old.last (n x)) seen) ≡ filter (λ x. in_span old.above (Some last) (n x)) seen =
    both_kept (λ x. up_to (Some last) (n x)) (λ x. in_span old.above old.last (n x)) (λ x. in_span old.above (Some last) (n x)) (λ x. cut_out old.above old.last last inside (n x)) (λ x. cut_in old.above old.last last inside (n x)) seen in
    record {
      are = k.0 ∙ ap (λ (l : List Stored). filter (λ x. up_to (Some last) (n x)) l) w.are ∙ narrow
          ∙ ap (λ (a : Option ℤ). filter (λ x. in_span a (Some last) (n x)) seen) (sym above) ∙ ap (λ (b : Option ℤ). filter (λ x. in_span new.above b (n x)) seen) (sym ends);
      numbered = k.1;
    }

-- the entries whose rowids pass are those that pass
pub kept_of : (key : IndexKey) (f : Held → Stored) (last : ℤ) (ps : List Held) → AllZip (IsNumberOf key) ps (map f ps)
    → (map f (filter (λ (p : Held). int_le p.rowid last) ps) ≡ filter (λ x. up_to (Some last) (number_in (width key) x)) (map f ps))
    × AllZip (IsNumberOf key) (filter (λ (p : Held). int_le p.rowid last) ps) (map f (filter (λ (p : Held). int_le p.rowid last) ps))
kept_of key f last [] w = (refl, tt)
kept_of key f last (p ∷ ps) w =
    let good : Held → Bool = λ p. int_le p.rowid last in
    let test : Stored → Bool = λ x. up_to (Some last) (number_in (width key) x) in
    let rest = kept_of key f last ps w.1 in
    let same : test (f p) ≡ good p = ap (λ (r : ℤ). int_le r last) (number_is (width key) p.rowid (f p) w.0) in
    ⊎_elim
    (λ (is : good p ≡ true).
    let here : filter good (p ∷ ps) ≡ p ∷ filter good ps = at_true (good p) (p ∷ filter good ps) (filter good ps) is in
    let there : filter test (f p ∷ map f ps) ≡ f p ∷ filter test (map f ps) = at_true (test (f p)) (f p ∷ filter test (map f ps)) (filter test (map f ps)) (same ∙ is) in (
      ap (map f) here ∙ ap (λ (l : List Stored). f p ∷ l) rest.0 ∙ sym there,
      subst (λ (l : List Held). AllZip (IsNumberOf key) l (map f l)) (sym here) (w.0, rest.1),
    ))
    (λ (is : good p ≡ false).
    let here : filter good (p ∷ ps) ≡ filter good ps = at_false (good p) (p ∷ filter good ps) (filter good ps) is in
    let there : filter test (f p ∷ map f ps) ≡ filter test (map f ps) = at_false (test (f p)) (f p ∷ filter test (map f ps)) (filter test (map f ps)) (same ∙ is) in (
      ap (map f) here ∙ rest.0 ∙ sym there,
      subst (λ (l : List Held). AllZip (IsNumberOf key) l (map f l)) (sym here) rest.1,
    ))
    (cases_Bool (good p))

pub all_kept_to : (last : ℤ) (list new : List Held) (bytes : List ℕ) → new ≡ filter (λ (p : Held). int_le p.rowid last) list → (key : IndexKey) → AllZip (IsNumberOf key) list (map (held_in bytes) list)
    → (map (held_in bytes) new ≡ filter (λ x. up_to (Some last) (number_in (width key) x)) (map (held_in bytes) list)) × AllZip (IsNumberOf key) new (map (held_in bytes) new)
all_kept_to last list new bytes is key w =
    let f = held_in bytes in
    subst (λ (l : List Held). (map f l ≡ filter (λ x. up_to (Some last) (number_in (width key) x)) (map f list)) × AllZip (IsNumberOf key) l (map f l)) (sym is) (kept_of key f last list w)

-- a copy of them, one after another
pub none_packed : (key : IndexKey) (kept : Entries) → held_by kept ≡ [] → AllZip (IsNumberOf key) kept.list.items (held_by kept)
none_packed key kept none = (none_gathered key (record { above = None; last = None }) kept none).numbered

pub one_packed : (self old new : Entries) (i : ℕ) (held : Held) (found : Found) (payload : List ℕ) (p : Held) → i < length self.list.items → held ≡ get_or self.list.items i held → found.page ≡ held.page
    → found.cell ≡ held.cell → (get_or (held_by self) i nothing).bytes ≡ payload → held_by old ≡ take i (held_by self) → held_by new ≡ held_by old ++ plain found payload ∷ []
    → new.list.items ≡ old.list.items ++ p ∷ [] → p.rowid ≡ held.rowid
    → (held_by new ≡ take (i + 1) (held_by self)) × ((key : IndexKey) → AllZip (IsNumberOf key) self.list.items (held_by self) → AllZip (IsNumberOf key) old.list.items (held_by old) → AllZip (IsNumberOf key) new.list.items (held_by new))
one_packed self old new i held found payload p below is page cell bytes same more list rowid =
    let f = held_in self.bytes.items in
    let xs = held_by self in
    let at : slice_get self.list.items i ≡ Some held = slice_get-get_or self.list.items i held below ∙ ap Some (sym is) in
    let there = map_get f self.list.items i held at in
    let here : get_or xs i nothing ≡ f held = get_or_from_slice_get xs i (f held) nothing there in
    let own : payload ≡ payload_in self.bytes.items held = sym bytes ∙ ap (λ (x : Stored). x.bytes) here in
    let one : plain found payload ≡ f held =
    ap (λ k. record { page = k; cell = found.cell; rowid = None; bytes = payload }) page
    ∙ ap (λ k. record { page = held.page; cell = k; rowid = None; bytes = payload }) cell
    ∙ ap (λ (b : List ℕ). record { page = held.page; cell = held.cell; rowid = None; bytes = b }) own in
    let many : length xs ≡ length self.list.items = length-map self.list.items f in (
      more ∙ ap (λ (l : List Stored). l ++ plain found payload ∷ []) same ∙ ap (λ (x : Stored). take i xs ++ x ∷ []) (one ∙ sym here) ∙ sym (take_more xs i nothing (omega (arith, many, below))),
      λ key w before.
          let z = zip_at (IsNumberOf key) self.list.items xs i held w at in
          let mine : IsNumberOf key held (f held) = subst (λ (x : Stored). IsNumberOf key held x) (at_once xs i z.0 (f held) z.1 there) z.2 in
          let its : IsNumberOf key p (plain found payload) = subst (λ (x : Stored). IsKeyed (width key) p.rowid (values_of x)) (sym one) (subst (λ (r : ℤ). IsKeyed (width key) r (values_of (f held))) (sym rowid) mine) in
          subst (λ (l : List Held). AllZip (IsNumberOf key) l (held_by new)) (sym list) (subst (λ (l : List Stored). AllZip (IsNumberOf key) (old.list.items ++ p ∷ []) l) (sym more)
          (zip_append (IsNumberOf key) old.list.items (p ∷ []) (held_by old) (plain found payload ∷ []) before (its, tt))),
    )

-- A rowid that is there twice among some is there twice among all.
twice_among : (key : IndexKey) (xs seen more : List Stored) (span : Span) (entries : Entries) (e : EntryError) → xs ≡ seen ++ more → AreOfSpan key span entries seen
    → TwiceRefused key (held_by entries) (errors.Entry e) → StandsAmong key xs e
twice_among key xs seen more span entries e all w h =
    let x = h.0 in
    let test : Stored → Bool = λ e. has_rowid (width key) h.5.0 (values_of e) in
    let keep : Stored → Bool = λ x. in_span span.above span.last (number_in (width key) x) in
    let some : Contains seen x = kept (subst (λ (l : List Stored). Contains l x) w.are h.1) in
    let there = place_of xs x (subst (λ (l : List Stored). Contains l x) (sym all) (Contains-append_left seen more x some)) in
    let two = subst (λ (l : List Stored). 2 ≤ count_by test l) w.are h.5.2 in
    let few = fewer_kept test keep seen in
    let sum : count_by test (seen ++ more) ≡ count_by test seen + count_by test more = sum_by-append (λ x. cond (test x) 1 0) seen more in
    let both : 2 ≤ count_by test (seen ++ more) = omega (arith, two, few, sum) in (
      there.0,
      x,
      there.1,
      h.2,
      h.3,
      subst (EntryRefused key xs there.0 x) (sym h.4) (h.5.0, h.5.1, subst (λ (l : List Stored). 2 ≤ count_by test l) (sym all) both),
    )
  where
    kept : Contains (entries_in key span seen) h.0 → Contains seen h.0
    kept c =
        let at = place_of (entries_in key span seen) h.0 c in
        let k = kept_from (λ x. in_span span.above span.last (number_in (width key) x)) seen at.0 h.0 at.1 in
        contained seen k.0.0 h.0 k.0.1

-- Why an entry isn't added is why they aren't read.
module _ (d : Database) (index : ℕ) (key : IndexKey) (limit : ℕ) (cells : Cells) (seen : List Stored) (found : Found) (bytes : List ℕ) where
  abbrev pub x : Stored
  x = stored_of found bytes

  pub no_entry : (e : IndexError) → AreTaken d index cells (seen ++ x ∷ []) → IsNoEntry key found bytes e → PartRefused d index key limit e
  no_entry (errors.Table e) w h = absurd h
  no_entry errors.TooLarge w h = absurd h
  no_entry (errors.Index (reads.Tree e)) w h = absurd h
  no_entry (errors.Index reads.TooLong) w h = absurd h
  no_entry (errors.Index reads.RowidOrder) w h = absurd h
  no_entry (errors.Index reads.NoMemory) w h = absurd h
  no_entry (errors.Index reads.OtherKind) w h = other_kind d index cells seen x w h
  no_entry (errors.Entry e) w h = λ xs has.
      let f = taken_first d index cells (seen ++ x ∷ []) xs w has.stored in
      let here = subst (λ (z : List Stored). slice_get z (length seen) ≡ Some x) (sym f.3) (get_left (seen ++ x ∷ []) f.1 (length seen) x (get_here seen x [])) in
      (length seen, x, here, sym h.1, sym h.2, subst (EntryRefused key xs (length seen) x) (sym h.0) h.3)

  not_cut : (span : Span) (entries : Entries) (e : IndexError) → AreTaken d index cells (seen ++ x ∷ []) → AreOfSpan key span entries seen → TwiceRefused key (held_by entries) e → PartRefused d index key limit e
  not_cut span entries (errors.Table e) w are h = absurd h
  not_cut span entries errors.TooLarge w are h = absurd h
  not_cut span entries (errors.Index e) w are h = subst (ReadRefused d index limit (NoEntries d index)) (sym h) tt
  not_cut span entries (errors.Entry e) w are h = λ xs has.
      let f = taken_first d index cells (seen ++ x ∷ []) xs w has.stored in
      twice_among key xs seen (x ∷ f.1) span entries e (f.3 ∙ append_assoc seen (x ∷ []) f.1) are h

  pub gathered_not : (part : Part) (e : IndexError) → AreTaken d index cells (seen ++ x ∷ []) → AreOfSpan key part.span part.entries seen → CutRefused part e → PartRefused d index key limit e
  gathered_not part e w are h = not_cut part.span part.entries e w are (h key (each_numbered key part.span part.entries seen are))

-- The same of two entries of a whole range.
pub twice_of_all : (d : Database) (table index : ℕ) (key : IndexKey) (limit : ℕ) (xs : List Stored) (part : Part) (e : IndexError) → HasEntries d index xs → AreOfSpan key part.span part.entries xs
    → TwiceRefused key (held_by part.entries) e → IndexRefused d table index key limit e
twice_of_all d table index key limit xs part (errors.Table x) has w h = absurd h
twice_of_all d table index key limit xs part errors.TooLarge has w h = absurd h
twice_of_all d table index key limit xs part (errors.Index e) has w h = subst (ReadRefused d index limit (NoEntries d index)) (sym h) tt
twice_of_all d table index key limit xs part (errors.Entry e) has w h =
    let s = twice_among key xs xs [] part.span part.entries e (sym (append-nil xs)) w h in
    stands d table index key limit xs s.0 s.1 e.fault e.page e.cell has s.2 s.3 s.4 s.5
