-- The columns of a table, and what they show of a row (SQLite's lang_altertable, "ALTER TABLE ADD COLUMN", and
-- lang_createtable, "ROWIDs and the INTEGER PRIMARY KEY").
use Rattle.std.specs.Prelude.{ℕ, ◌==◌, max, if◌then◌else◌, List, length, slice_get, Option, Some, None, unwrap_or, ℤ}
use Rattle.sqval.specs.Datum.{Datum, null, integer}
use Rattle.sqpage.specs.Lists.{each_from}
use Rattle.sqrows.specs.Rows.{Row}
use Rattle.sqdefaults.specs.declared.literal.Literal.{Literal}
use Rattle.sqdefaults.specs.Literals.{datum_in}
use Rattle.sqtables.specs.declared.columns.Columns.{Columns}

-- the value of a default, which is NULL where none is known
abbrev pub default_in : Option (Option Literal) → Datum
default_in (Some (Some literal)) = datum_in literal
default_in _ = null

-- where a row stores column j: the j-th, where the table has rowids, and so no places
abbrev pub place_in : (places : List ℕ) → (j : ℕ) → ℕ
place_in places j = unwrap_or (slice_get places j) j

-- the rowid in the place of what is stored, in the column that is another name for it
abbrev pub aliased : Option ℕ → Option ℤ → (j : ℕ) → Datum → Datum
aliased (Some i) (Some id) j stored = if i == j then integer id else stored
aliased (Some i) None j stored = stored
aliased None id j stored = stored

-- Column j of a row, from 0: the rowid, or what is stored in its place, or the column's default where the row ends before.
abbrev pub shown_at : Columns → Row → (j : ℕ) → Datum
shown_at columns row j =
    aliased columns.alias row.rowid j (unwrap_or (slice_get row.values (place_in columns.places.items j)) (default_in (slice_get columns.defaults.items j)))

-- The columns of a row: as many as are stored or defined.
abbrev pub shown : Columns → Row → List Datum
shown columns row = each_from 0 (max (length row.values) (length columns.names.items)) (shown_at columns row)
