-- Objects of the schema that are taken in row by row.
use Rattle.std.proofs.Common.{◌≡◌, ◌↔◌, ◌<◌, ◌^◌, inl, inr, ⊎_elim, ℕ, true, false, List, [], ◌∷◌, ◌++◌, length, refl, sym, ap, ◌∙◌, subst, append_assoc, append-nil}
use Rattle.sqval.specs.Database.{Database}
use Rattle.std.specs.Prelude.{Some, pos}
use Rattle.sqval.specs.Datum.{Datum, integer, text}
use Rattle.sqrows.specs.Rows.{Row, HasRows}
use Rattle.sqval.specs.Record.{most_bytes}
use Rattle.sqrows.specs.declared.rows.Rows.{Rows}
use Rattle.sqrows.specs.Trees.{Entry, IsTree}
use Rattle.sqrows.specs.Cursor.{IsLeft}
use Rattle.sqrows.specs.RowCursor.{RowsLeft}
use Rattle.sqrows.specs.Stops.{IsNoRecord}
use Rattle.sqrows.proofs.PassedRows.{none_passed, one_passed, holds_at, row_refused}
use Rattle.sqtables.specs.declared.list.Object.{Object}
use Rattle.sqtables.specs.declared.list.ListError.{ListError}
use Rattle.sqtables.specs.declared.list.ListError.TheVariants.{Tree, Row as RowError, Record, NoMemory}
use Rattle.sqtables.specs.Objects.{AreObjects, HasObjects, ListRefused}
use Rattle.sqtables.specs.Schema.{IsObjectRow}
use Rattle.sqtables.specs.declared.schema.ObjectRow.{ObjectRow}
use Rattle.sqtables.specs.internal.Listing.{Adds, AreTaken, IsCopyOf, NextRefused, TakesNext}

-- an object that is a copy of what a row says is added
pub added : (values : List Datum) (row : ObjectRow) (o : Object) (before after : List Object) → IsObjectRow values row.kind.now row.name.now row.root row.sql.now
    → IsCopyOf row o → after ≡ before ++ o ∷ [] → Adds values before after
added values row o before after is copy items =
    let Small : ℕ → Type 0 = λ n. n < 2 ^ 32 in
    inr (
      o,
      record {
        typed = is.typed ∙ ap (λ b. Some (text b)) (sym copy.kind);
        named = is.named ∙ ap (λ b. Some (text b)) (sym copy.name);
        rooted = is.rooted ∙ ap (λ n. Some (integer (pos n))) (sym copy.root);
        written = is.written ∙ ap (λ b. Some (text b)) (sym copy.sql);
        below = subst Small (sym copy.root) is.below;
      },
      items,
    )

objects_snoc : (rows : List Row) (row : Row) (before after : List Object) → AreObjects rows before → Adds row.values before after → AreObjects (rows ++ row ∷ []) after
objects_snoc [] row before after are adds = ⊎_elim
    (λ none. inl (none.0, none.1 ∙ are))
    (λ some. inr (some.0, [], some.1, refl, some.2 ∙ ap (λ z. z ++ some.0 ∷ []) are))
    adds
objects_snoc (r ∷ rows) row before after are adds = ⊎_elim
    (λ none. inl (none.0, objects_snoc rows row before after none.1 adds))
    (λ some. ⊎_elim
    (λ kept. inr (some.0, some.1, some.2, objects_snoc rows row some.1 some.1 some.3 (inl (kept.0, refl)), kept.1 ∙ some.4))
    (λ more. inr (
      some.0,
      some.1 ++ more.0 ∷ [],
      some.2,
      objects_snoc rows row some.1 (some.1 ++ more.0 ∷ []) some.3 (inr (more.0, more.1, refl)),
      more.2 ∙ ap (λ z. z ++ more.0 ∷ []) some.4,
    ))
    adds)
    are

pub none_taken : (d : Database) (root : ℕ) (cursor : Rows) (objects : List Object) → objects ≡ [] → ((all : List Row) → HasRows d root all ↔ RowsLeft d cursor all)
    → ((xs : List Entry) → IsTree d root xs ↔ IsLeft d cursor.cells xs) → AreTaken d root cursor objects
none_taken d root cursor objects none all cells =
    record { rows = []; are = none; others = λ rest left. (all rest).1 left; passed = none_passed d root cursor (λ xs. (cells xs).0) }

pub one_taken : (d : Database) (root : ℕ) (old new : Rows) (before after : List Object) → AreTaken d root old before → TakesNext d true old new before after → AreTaken d root new after
one_taken d root old new before after w next = record {
  rows = w.rows ++ next.0 ∷ [];
  are = objects_snoc w.rows next.0 before after w.are next.2;
  others = λ rest left. subst (λ rows. HasRows d root rows) (sym (append_assoc w.rows (next.0 ∷ []) rest)) (w.others (next.0 ∷ rest) (next.1 rest left));
  passed = one_passed d root old new w.rows next.0 w.passed next.3;
}

-- why the next row isn't taken in is why the objects aren't listed
pub list_refused : (d : Database) (cursor : Rows) (objects : List Object) (error : ListError) → cursor.limit ≡ most_bytes → AreTaken d 1 cursor objects → NextRefused d cursor error → ListRefused d error
list_refused d cursor objects (Tree e) limit w h = absurd h
list_refused d cursor objects (RowError e) limit w h = (length w.rows, row_refused d 1 most_bytes cursor w.rows e w.passed limit h)
list_refused d cursor objects (Record e) limit w h = (length w.rows, holds_at d 1 cursor w.rows (IsNoRecord d e) w.passed h)
list_refused d cursor objects NoMemory limit w h = tt

pub all_taken : (d : Database) (old new : Rows) (before after : List Object) → AreTaken d 1 old before → TakesNext d false old new before after → HasObjects d after
all_taken d old new before after w next =
    (w.rows, subst (λ rows. HasRows d 1 rows) (append-nil w.rows) (w.others [] next.0), subst (λ os. AreObjects w.rows os) (sym next.1) w.are)
