-- The rows of a schema as they are read, one after another (own). No public contract cites these words.
use Rattle.std.specs.Prelude.{◌≡◌, ◌↔◌, Bool, true, false, List, [], ◌∷◌, ◌++◌, map}
use Rattle.sqval.specs.Database.{Database}
use Rattle.sqrows.specs.Rows.{Row, HasRows}
use Rattle.sqrows.specs.RowCursor.{RowsLeft}
use Rattle.sqrows.specs.declared.rows.Rows.{Rows}
use Rattle.sqrows.specs.declared.rows.RowsError.{RowsError}
use Rattle.sqrows.specs.declared.rows.RowsError.TheVariants as row_errors
use Rattle.sqrows.specs.declared.payload.PayloadError.TheVariants as payload_errors
use Rattle.sqdeep.specs.declared.text.Encoding.{Encoding}
use Rattle.sqschema.specs.declared.error.ReadError.{ReadError}
use Rattle.sqschema.specs.declared.error.ReadError.TheVariants as errors
use Rattle.sqschema.specs.Items.{Item, item_of, items_of}
use Rattle.sqschema.specs.Schema.{IsLimit, NoRows}

-- why a row isn't read
abbrev pub read_error : RowsError → ReadError
read_error (row_errors.Tree e) = errors.Tree e
read_error (row_errors.Payload (payload_errors.Chain e)) = errors.Tree e
read_error (row_errors.Payload payload_errors.TooLong) = errors.TooLong

-- what these rows say
abbrev pub said : Encoding → List Row → List Item
said encoding rows = map (λ row. item_of encoding row.values) rows

-- The row that came first among those that were left was taken in; or none was left.
abbrev pub TakesNext : Database → Encoding → (found : Bool) → (old new : Rows) → (before after : List Item) → Type 0
TakesNext d encoding true old new before after =
    (row : Row) × ((rows : List Row) → RowsLeft d old rows ↔ ((more : List Row) × (rows ≡ row ∷ more) × RowsLeft d new more))
    × (after ≡ before ++ item_of encoding row.values ∷ [])
TakesNext d encoding false old new before after = ((rows : List Row) → RowsLeft d old rows ↔ (rows ≡ [])) × (after ≡ before)

-- The next row can't be read, unless by a limit.
abbrev pub NextRefused : Database → Rows → ReadError → Type 0
NextRefused d cursor e = ¬ IsLimit e → (rows : List Row) → ¬ RowsLeft d cursor rows

-- These items are those of the rows before what is left.
pub record AreTaken (d : Database) (encoding : Encoding) (cursor : Rows) (items : List Item) : Type 0 where
  pub rows : List Row
  pub are : items ≡ said encoding rows
  pub others : (rest : List Row) → RowsLeft d cursor rest → HasRows d 1 (rows ++ rest)
  pub only : (all : List Row) → HasRows d 1 all → (rest : List Row) × RowsLeft d cursor rest × (all ≡ rows ++ rest)

-- These items are those of the rows of the schema, which has no others.
pub record AreRead (d : Database) (items : List Item) : Type 0 where
  pub rows : List Row
  pub has : HasRows d 1 rows
  pub only : (all : List Row) → HasRows d 1 all → all ≡ rows
  pub are : items ≡ items_of d rows

-- Why the rows aren't read.
abbrev pub ReadRefused : Database → ReadError → Type 0
ReadRefused d e = ¬ IsLimit e → NoRows d
