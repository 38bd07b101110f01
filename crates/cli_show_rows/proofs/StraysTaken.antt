-- Strays of a schema that are taken in row by row.
use Rattle.std.proofs.Common.{◌≡◌, ◌↔◌, inl, inr, ⊎_elim, ℕ, true, false, List, [], ◌∷◌, ◌++◌, length, refl, sym, ap, ◌∙◌, subst, append_assoc, append-nil}
use Rattle.std.specs.Prelude.{slice_get}
use Rattle.sqval.specs.Database.{Database}
use Rattle.sqval.specs.Record.{most_bytes}
use Rattle.sqdeep.specs.declared.text.Encoding.{Encoding}
use Rattle.sqrows.specs.Rows.{Row, HasRows}
use Rattle.sqrows.specs.declared.rows.Rows.{Rows}
use Rattle.sqrows.specs.Trees.{Entry, IsTree}
use Rattle.sqrows.specs.Cursor.{IsLeft}
use Rattle.sqrows.specs.RowCursor.{RowsLeft}
use Rattle.sqrows.specs.Stops.{IsNoRecord}
use Rattle.sqrows.proofs.PassedRows.{none_passed, one_passed, holds_at, row_refused}
use Rattle.sqtables.specs.declared.list.ListError.{ListError}
use Rattle.sqtables.specs.declared.list.ListError.TheVariants.{Tree, Row as RowError, Record, NoMemory}
use Rattle.sqtables.specs.Objects.{ListRefused}
use Rattle.sqtables.specs.internal.Listing.{NextRefused}
use Rattle.cli_show_rows.specs.Strays.{AreStrays, HasStrays, stray_bytes}
use Rattle.cli_show_rows.specs.internal.Straying.{AddsStray, AreStraysTaken, TakesStray}

strays_snoc : (encoding : Encoding) (rows : List Row) (row : Row) (before after : List (List ℕ)) → AreStrays encoding rows before
    → AddsStray encoding row.values before after → AreStrays encoding (rows ++ row ∷ []) after
strays_snoc encoding [] row before after are adds = ⊎_elim
    (λ none. inl (none.0, none.1 ∙ are))
    (λ some. inr ([], some.0, refl, some.1 ∙ ap (λ z. z ++ stray_bytes (slice_get row.values 4) ∷ []) are))
    adds
strays_snoc encoding (r ∷ rows) row before after are adds = ⊎_elim
    (λ none. inl (none.0, strays_snoc encoding rows row before after none.1 adds))
    (λ some. ⊎_elim
    (λ kept. inr (some.0, some.1, strays_snoc encoding rows row some.0 some.0 some.2 (inl (kept.0, refl)), kept.1 ∙ some.3))
    (λ more. inr (
      some.0 ++ stray_bytes (slice_get row.values 4) ∷ [],
      some.1,
      strays_snoc encoding rows row some.0 (some.0 ++ stray_bytes (slice_get row.values 4) ∷ []) some.2 (inr (more.0, refl)),
      more.1 ∙ ap (λ z. z ++ stray_bytes (slice_get row.values 4) ∷ []) some.3,
    ))
    adds)
    are

pub no_strays_taken : (d : Database) (encoding : Encoding) (cursor : Rows) (strays : List (List ℕ)) → strays ≡ []
    → ((all : List Row) → HasRows d 1 all ↔ RowsLeft d cursor all) → ((xs : List Entry) → IsTree d 1 xs ↔ IsLeft d cursor.cells xs)
    → AreStraysTaken d encoding cursor strays
no_strays_taken d encoding cursor strays none all cells =
    record { rows = []; are = none; others = λ rest left. (all rest).1 left; passed = none_passed d 1 cursor (λ xs. (cells xs).0) }

pub one_stray_taken : (d : Database) (encoding : Encoding) (old new : Rows) (before after : List (List ℕ)) → AreStraysTaken d encoding old before
    → TakesStray d encoding true old new before after → AreStraysTaken d encoding new after
one_stray_taken d encoding old new before after w next = record {
  rows = w.rows ++ next.0 ∷ [];
  are = strays_snoc encoding w.rows next.0 before after w.are next.2;
  others = λ rest left. subst (λ rows. HasRows d 1 rows) (sym (append_assoc w.rows (next.0 ∷ []) rest)) (w.others (next.0 ∷ rest) (next.1 rest left));
  passed = one_passed d 1 old new w.rows next.0 w.passed next.3;
}

-- why the next row isn't taken in is why the strays aren't found
pub strays_refused : (d : Database) (encoding : Encoding) (cursor : Rows) (strays : List (List ℕ)) (error : ListError) → cursor.limit ≡ most_bytes
    → AreStraysTaken d encoding cursor strays → NextRefused d cursor error → ListRefused d error
strays_refused d encoding cursor strays (Tree e) limit w h = absurd h
strays_refused d encoding cursor strays (RowError e) limit w h = (length w.rows, row_refused d 1 most_bytes cursor w.rows e w.passed limit h)
strays_refused d encoding cursor strays (Record e) limit w h = (length w.rows, holds_at d 1 cursor w.rows (IsNoRecord d e) w.passed h)
strays_refused d encoding cursor strays NoMemory limit w h = tt

pub all_strays_taken : (d : Database) (encoding : Encoding) (old new : Rows) (before after : List (List ℕ)) → AreStraysTaken d encoding old before
    → TakesStray d encoding false old new before after → HasStrays d encoding after
all_strays_taken d encoding old new before after w next =
    (w.rows, subst (λ rows. HasRows d 1 rows) (append-nil w.rows) (w.others [] next.0), subst (λ ts. AreStrays encoding w.rows ts) (sym next.1) w.are)
