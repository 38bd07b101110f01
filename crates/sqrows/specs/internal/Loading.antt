-- Why a cursor over rows has no payload of its cell (own).
use Rattle.std.specs.Prelude.{◌≢◌, ℕ}
use Rattle.sqval.specs.Database.{Database}
use Rattle.sqpage.specs.declared.fault.Fault.TheVariants as faults
use Rattle.sqrows.specs.declared.cells.Cells.{Cells}
use Rattle.sqrows.specs.declared.payload.PayloadError.TheVariants.{TooLong, Chain}
use Rattle.sqrows.specs.declared.rows.RowsError.{RowsError}
use Rattle.sqrows.specs.declared.rows.RowsError.TheVariants.{Tree, Payload}
use Rattle.sqrows.specs.Trees.{Entry}
use Rattle.sqrows.specs.Cursor.{IsAt}
use Rattle.sqrows.specs.RowCursor.{HasNoPayload, IsAbove}

-- Why the payload of the cell isn't read: there is no cell; it is above the limit; it isn't there, unless memory ran out.
abbrev pub LoadRefused : Database → Cells → (limit : ℕ) → RowsError → Type 0
LoadRefused d cells limit (Payload TooLong) = (e : Entry) → IsAt cells e → IsAbove limit e
LoadRefused d cells limit (Payload (Chain refusal)) = (refusal.fault ≢ faults.Source) × (refusal.fault ≢ faults.NoMemory → (e : Entry) → IsAt cells e → HasNoPayload d e)
LoadRefused d cells limit (Tree refusal) = (refusal.fault ≢ faults.Source) × ((e : Entry) → ¬ IsAt cells e)
