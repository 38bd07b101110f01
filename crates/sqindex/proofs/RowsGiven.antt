-- The rows of a table that a cursor has given.
use Rattle.std.proofs.Common.{◌≡◌, ◌+◌, ◌∙◌, ℕ, zero, suc, true, false, ℤ, ◌<ℤ◌, int_le, List, [], ◌∷◌, ◌++◌, length, slice_get, Option, Some, None, refl, sym, subst, arith, append-nil, append_assoc}
use Rattle.std.proofs.lemmas.Int.{ints}
use Rattle.sqval.specs.Database.{Database}
use Rattle.sqrows.specs.Cursor.{IsOver}
use Rattle.sqrows.specs.declared.cells.Cells.{Cells}
use Rattle.sqindex.specs.declared.rows.Ahead.{Ahead}
use Rattle.sqindex.specs.declared.rows.Ahead.TheVariants.{Unread, Row, End}
use Rattle.sqindex.specs.declared.rows.Rows.{Rows}
use Rattle.sqindex.specs.declared.walk.Found.{Found}
use Rattle.sqindex.specs.declared.walk.Walk.{Walk}
use Rattle.sqindex.specs.Stored.{Stored}
use Rattle.sqindex.specs.Keys.{rowid_of}
use Rattle.sqindex.specs.Rules.{Rise, HasKeyedRows}
use Rattle.sqindex.specs.internal.Joining.{IsAbove, AreSeen}
use Rattle.sqindex.specs.internal.Reading.{stored_of, WalkMoves, AreTaken}
use Rattle.sqindex.specs.internal.RowsGiven.{AreGiven, IsCursor, Gives, GivesTo, AreUpTo}
use Rattle.sqindex.specs.internal.Spans.{up_to, passed, IsOpen}
use Rattle.sqindex.specs.declared.span.Span.{Span}
use Rattle.sqindex.proofs.CellsTaken.{has_once, taken_first}
use Rattle.sqindex.proofs.Places.{some_once, get_here, get_right}
use Rattle.sqindex.proofs.RowsInSpans.{was_passed}
use Rattle.sqindex.proofs.RowsJoined.{far}
use Rattle.sqindex.proofs.RowsSeen.{one_seen, all_seen}

-- Where the table has no more, all others are behind.
pub all_given : (d : Database) (table : ℕ) (last : Option ℤ) (given : List Stored) → HasKeyedRows d table given → AreUpTo d table last given
all_given d table last given has = record {
  whole = λ none. has;
  others = λ all h. ([], has_once d table given all has.stored h.stored ∙ sym (append-nil given), λ i row at. absurd (cc));
}

higher : (last : Option ℤ) (r s : ℤ) → up_to last r ≡ false → r <ℤ s → up_to last s ≡ false
higher None r s out less = absurd (cc)
higher (Some b) r s out less =
    let far' : int_le r b ≡ false = out in
    let goal : int_le s b ≡ false = grind (arith, ints) in
    goal

no_end : (last : Option ℤ) (r : ℤ) → up_to last r ≡ false → last ≡ None → ⊥
no_end None r out none = cc
no_end (Some b) r out none = cc

-- Where the next one is behind, so are all others.
pub row_behind : (d : Database) (table : ℕ) (cells : Cells) (last : Option ℤ) (given : List Stored) (x : Stored) → AreTaken d table cells (given ++ x ∷ []) → up_to last (rowid_of x) ≡ false → AreUpTo d table last given
row_behind d table cells last given x taken behind = record {
  whole = λ none. absurd (no_end last (rowid_of x) behind none);
  others = λ all has.
      let f = taken_first d table cells (given ++ x ∷ []) all taken has.stored in
      let whole : all ≡ given ++ (x ∷ f.1) = f.3 ∙ append_assoc given (x ∷ []) f.1 in
      let first = subst (λ (l : List Stored). slice_get l (length given) ≡ Some x) (sym whole) (get_here given x f.1) in
      (x ∷ f.1, whole, go all f.1 has.rise whole first);
}
  where
    go : (all more : List Stored) → Rise all → all ≡ given ++ (x ∷ more) → slice_get all (length given) ≡ Some x → (i : ℕ) (y : Stored) → slice_get (x ∷ more) i ≡ Some y → up_to last (rowid_of y) ≡ false
    go all more rise whole first zero y at = subst (λ (z : Stored). up_to last (rowid_of z) ≡ false) (some_once x y at) behind
    go all more rise whole first (suc i) y at =
        let there = subst (λ (l : List Stored). slice_get l (length given + suc i) ≡ Some y) (sym whole) (get_right given (x ∷ more) (suc i) y at) in
        let up = far rowid_of all rise (length given + suc i) (length given) x y (omega arith) first there in
        higher last (rowid_of x) (rowid_of y) behind up

-- Rows that were passed before a range are up to its end.
pub passed_up : (span : Span) (given : List Stored) → IsOpen span → ((i : ℕ) (row : Stored) → slice_get given i ≡ Some row → passed span.above (rowid_of row) ≡ true)
    → (i : ℕ) (row : Stored) → slice_get given i ≡ Some row → up_to span.last (rowid_of row) ≡ true
passed_up span given upward before i row at = (was_passed span.above span.last upward (rowid_of row) (before i row at)).0

-- What a cursor gives next.
module _ (d : Database) (table : ℕ) (old : Rows) (given : List Stored) (w : IsCursor d table old given) where
  pub are_seen : old.ahead ≡ Unread → AreSeen d table old.walk.cells old.last given
  are_seen is = subst (λ (a : Ahead). AreGiven d table a old.walk old.last given) is w.are

  pub given_ahead : (found : Found) → old.ahead ≡ Row found → Gives d table (record { walk = old.walk; ahead = Unread; last = old.last }) given (Some found)
  given_ahead found is = (record { over = w.over; limited = w.limited; are = subst (λ (a : Ahead). AreGiven d table a old.walk old.last given) is w.are }, refl)

  pub given_end : old.ahead ≡ End → Gives d table old given None
  given_end is = (w, subst (λ (a : Ahead). AreGiven d table a old.walk old.last given) is w.are)

  module _ (walk : Walk) (usable : walk.cells.usable ≡ old.walk.cells.usable) (limit : walk.limit ≡ old.walk.limit) where
    over : IsOver d walk.cells
    over = usable ∙ w.over

    pub given_last : old.ahead ≡ Unread → WalkMoves d old.walk.cells None walk → Gives d table (record { walk = walk; ahead = End; last = old.last }) given None
    given_last is moves =
        let has = all_seen d table old.walk.cells walk old.last given (are_seen is) moves in
        (record { over = over; limited = limit ∙ w.limited; are = has }, has)

    pub given_next : (found : Found) (now : Option ℤ) → old.ahead ≡ Unread → WalkMoves d old.walk.cells (Some found) walk → IsAbove old.last found.rowid now
        → Gives d table (record { walk = walk; ahead = old.ahead; last = now }) given (Some found)
    given_next found now is moves above =
        let more = one_seen d table old.walk.cells walk found old.last now given (are_seen is) moves above in (
          record {
            over = over;
            limited = limit ∙ w.limited;
            are = subst (λ (a : Ahead). AreGiven d table a walk now (given ++ stored_of found walk.payload.items ∷ [])) (sym is) more;
          },
          is,
        )

-- A row behind the rowid is left for later.
pub left_ahead : (d : Database) (table : ℕ) (rows : Rows) (given : List Stored) (found : Found) (last : Option ℤ) → Gives d table rows given (Some found)
    → up_to last (rowid_of (stored_of found rows.walk.payload.items)) ≡ false → GivesTo d table last (record { walk = rows.walk; ahead = Row found; last = rows.last }) given None
left_ahead d table rows given found last g behind =
    let x = stored_of found rows.walk.payload.items in
    let seen = are_seen d table rows (given ++ x ∷ []) g.0 g.1 in
    (record { over = g.0.over; limited = g.0.limited; are = seen }, row_behind d table rows.walk.cells last given x seen.taken behind)

-- whatever it gave, it has given some
pub given_on : (d : Database) (table : ℕ) (new : Rows) (given : List Stored) (found : Option Found) → Gives d table new given found → (all : List Stored) × IsCursor d table new all
given_on d table new given None g = (given, g.0)
given_on d table new given (Some found) g = (given ++ stored_of found new.walk.payload.items ∷ [], g.0)
