-- Words of the function that takes the rows of a table WITHOUT ROWID one after another (own). No public contract cites them.
use Rattle.std.specs.Prelude.{◌≡◌, ◌+◌, ℕ, Bool, List, [], length, take, slice_get, Option, Some, None}
use Rattle.std.specs.List.{All}
use Rattle.std.specs.declared.cmp.Ordering.TheVariants.{Less}
use Rattle.sqval.specs.Database.{Database}
use Rattle.sqrows.specs.declared.cells.Cells.{Cells}
use Rattle.sqkeys.specs.declared.keyed.RowKey.{RowKey}
use Rattle.sqlite_record.specs.Record.{decode}
use Rattle.sqlite_value.specs.Keys.{prefix_cmp}
use Rattle.sqindex.specs.declared.error.RowError.{RowError}
use Rattle.sqindex.specs.declared.row_fault.RowFault.{RowFault}
use Rattle.sqindex.specs.declared.row_fault.RowFault.TheVariants as faults
use Rattle.sqindex.specs.declared.table.Scan.{Scan}
use Rattle.sqindex.specs.Stored.{Stored}
use Rattle.sqindex.specs.KeyedRows.{KeysAscend, RowIsWrong}
use Rattle.sqindex.specs.RowsKept.{IsFaultless, HasFault}
use Rattle.sqindex.specs.internal.Reading.{AreTaken}
use Rattle.sqindex.specs.internal.Scanning.{AreKept}

-- Nothing is wrong with these rows; or this is the first fault.
abbrev pub KeyedAs : RowKey → List Stored → Option RowError → Bool → Type 0
KeyedAs key rows None clear = KeysAscend key rows × AreKept key.rules.items rows clear
KeyedAs key rows (Some e) clear = (i : ℕ) × (x : Stored) × (slice_get rows i ≡ Some x) × (x.page ≡ e.page) × (x.cell ≡ e.cell) × RowIsWrong key rows i x e.fault

abbrev pub IsKeyedScan : RowKey → List Stored → Scan → Type 0
IsKeyedScan key rows scan = KeyedAs key rows scan.fault scan.clear

-- The key of this row comes behind that of the one before it, where there is one.
abbrev pub IsBehindOf : RowKey → (before : Option (List ℕ)) → (row : List ℕ) → Type 0
IsBehindOf key None row = Unit {0}
IsBehindOf key (Some before) row = prefix_cmp key.order (decode before) (take key.width (decode row)) ≡ Less

-- The first fault of a row.
abbrev pub FaultIn : RowKey → (before : Option (List ℕ)) → (row : List ℕ) → Option RowFault → Type 0
FaultIn key before row None = IsBehindOf key before row × IsFaultless key.rules.items (decode row)
FaultIn key before row (Some faults.RowOrder) = ¬ IsBehindOf key before row
FaultIn key before row (Some fault) = HasFault key.rules.items (decode row) fault

-- the payload of the last of these rows, where there is one
abbrev pub IsBefore : List Stored → Option (List ℕ) → Type 0
IsBefore rows None = rows ≡ []
IsBefore rows (Some bytes) = (h : ℕ) × (a : Stored) × (length rows ≡ h + 1) × (slice_get rows h ≡ Some a) × (a.bytes ≡ bytes)

-- These were read of the tree of a root, whose cells have no rowids of their own.
pub record ArePlain (d : Database) (root : ℕ) (cells : Cells) (rows : List Stored) : Type 0 where
  pub taken : AreTaken d root cells rows
  pub plain : All (λ row. row.rowid ≡ None) rows
