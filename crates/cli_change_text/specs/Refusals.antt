-- Why a change isn't written (own).
use Rattle.std.specs.Prelude.{◌≡◌, ◌⊎◌, ◌<◌, Bool, true, false, ℕ, List, length, Option, None}
use Rattle.sqrows.specs.Rows.{Row}
use Rattle.sqtables.specs.declared.columns.Columns.{Columns}
use Rattle.cli_show_rows.specs.declared.stop.Stop.{Stop}
use Rattle.cli_show_rows.specs.declared.stop.Stop.TheVariants.{Default, Behind, NotUnderstood, NoMemory, Write}
use Rattle.sqdiff.specs.Changes.{Change, inserted, deleted, changed}
use Rattle.sqkeydiff.specs.declared.key.KeyOrder.{KeyOrder}
use Rattle.cli_change_text.specs.declared.style.Writing.{Writing}
use Rattle.cli_change_text.specs.declared.style.Writing.TheVariants.{Arrival}

-- A row lacks a column whose default isn't known, has one that an INSERT can't name, or has no rowid, where no key names it.
abbrev pub IsUnwritable : Writing → (key : Option KeyOrder) → Columns → Row → Stop → Type 0
IsUnwritable writing key columns row Default = length row.values < columns.needed
IsUnwritable writing key columns row Behind = (writing ≡ Arrival) × (length columns.names.items < length row.values)
IsUnwritable writing key columns row NotUnderstood = (row.rowid ≡ None) × (key ≡ None)
IsUnwritable writing key columns row _ = ⊥

-- the row that came, or went
abbrev pub side_of : (comes : Bool) → Row → Change
side_of true row = inserted row
side_of false row = deleted row

-- A row of the change can't be written; or memory ran out, or the writer failed.
abbrev pub IsUnwritableChange : Writing → (key : Option KeyOrder) → Columns → Change → Stop → Type 0
IsUnwritableChange writing key columns (inserted row) stop = IsUnwritable writing key columns row stop
IsUnwritableChange writing key columns (deleted row) stop = IsUnwritable writing key columns row stop
IsUnwritableChange writing key columns (changed old new) stop = IsUnwritable writing key columns old stop ⊎ IsUnwritable writing key columns new stop

abbrev pub IsUnwritten : Writing → (key : Option KeyOrder) → Columns → Change → Stop → Type 0
IsUnwritten writing key columns c NoMemory = Unit {0}
IsUnwritten writing key columns c (Write e) = Unit {0}
IsUnwritten writing key columns c stop = IsUnwritableChange writing key columns c stop

-- Nothing was written, unless it was the writer that failed.
abbrev pub IsKept : Stop → (before after : Option (List ℕ)) → Type 0
IsKept (Write e) before after = Unit {0}
IsKept _ before after = before ≡ after
