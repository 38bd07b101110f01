-- A step of finding the strays of a schema (own).
use Rattle.std.specs.Prelude.{◌≡◌, ◌⊎◌, ℕ, Bool, true, false, List, [], ◌∷◌, ◌++◌, slice_get}
use Rattle.sqval.specs.Database.{Database}
use Rattle.sqval.specs.Datum.{Datum}
use Rattle.sqdeep.specs.declared.text.Encoding.{Encoding}
use Rattle.sqrows.specs.Rows.{Row, HasRows}
use Rattle.sqrows.specs.RowCursor.{RowsLeft}
use Rattle.sqrows.specs.internal.Passing.{ArePassed, Passes}
use Rattle.sqrows.specs.declared.rows.Rows.{Rows}
use Rattle.cli_show_rows.specs.Strays.{AreStrays, IsStray, stray_bytes}

-- The text of a stray was added behind these, or the row is none.
abbrev pub AddsStray : Encoding → List Datum → (before after : List (List ℕ)) → Type 0
AddsStray encoding values before after =
    ((¬ IsStray encoding values) × (after ≡ before))
    ⊎ (IsStray encoding values × (after ≡ before ++ stray_bytes (slice_get values 4) ∷ []))

-- The row that came first among those that were left was taken in; or none was left.
abbrev pub TakesStray : Database → Encoding → (found : Bool) → (old new : Rows) → (before after : List (List ℕ)) → Type 0
TakesStray d encoding true old new before after =
    (row : Row) × ((rows : List Row) → RowsLeft d new rows → RowsLeft d old (row ∷ rows))
    × AddsStray encoding row.values before after × Passes d old new row
TakesStray d encoding false old new before after = RowsLeft d old [] × (after ≡ before)

-- These are the texts of the strays in the rows before what is left.
pub record AreStraysTaken (d : Database) (encoding : Encoding) (cursor : Rows) (strays : List (List ℕ)) : Type 0 where
  pub rows : List Row
  pub are : AreStrays encoding rows strays
  pub others : (rest : List Row) → RowsLeft d cursor rest → HasRows d 1 (rows ++ rest)
  pub passed : ArePassed d 1 cursor rows
