-- Words of the functions that take the rows of a table beside its columns (own). No public contract cites them.
use Rattle.std.specs.Prelude.{◌≡◌, ℕ, Bool, List, slice_get, Option, Some, None, MatchBool, Result, Ok, Err}
use Rattle.std.specs.List.{All, Contains}
use Rattle.sqkeys.specs.declared.row_rules.ColumnRule.{ColumnRule}
use Rattle.sqindex.specs.declared.error.RowError.{RowError}
use Rattle.sqindex.specs.declared.error.TableError.{TableError}
use Rattle.sqindex.specs.declared.error.TableError.TheVariants.{Row}
use Rattle.sqindex.specs.declared.table.Scan.{Scan}
use Rattle.sqindex.specs.Stored.{Stored}
use Rattle.sqindex.specs.Keys.{values_of}
use Rattle.sqindex.specs.RowsKept.{IsFaultless, HasFault, IsClear, IsUnclear}

-- Nothing is wrong with these rows, and it is known what stands in all of them, or isn't.
pub record AreKept (rules : List ColumnRule) (rows : List Stored) (clear : Bool) : Type 0 where
  pub faultless : All (λ row. IsFaultless rules (values_of row)) rows
  pub known : MatchBool clear (All (λ row. IsClear rules (values_of row)) rows) ((row : Stored) × Contains rows row × IsUnclear rules (values_of row))

-- Nothing is wrong with these rows; or this is the first fault.
abbrev pub ScannedAs : List ColumnRule → List Stored → Option RowError → Bool → Type 0
ScannedAs rules rows None clear = AreKept rules rows clear
ScannedAs rules rows (Some e) clear = (i : ℕ) × (x : Stored) × (slice_get rows i ≡ Some x) × (x.page ≡ e.page) × (x.cell ≡ e.cell) × HasFault rules (values_of x) e.fault

abbrev pub IsScanned : List ColumnRule → List Stored → Scan → Type 0
IsScanned rules rows scan = ScannedAs rules rows scan.fault scan.clear

-- what is told behind the last row
abbrev pub EndsAs : Scan → Result Bool TableError → Type 0
EndsAs scan (Ok clear) = (scan.fault ≡ None) × (clear ≡ scan.clear)
EndsAs scan (Err e) = (fault : RowError) × (scan.fault ≡ Some fault) × (e ≡ Row fault)
