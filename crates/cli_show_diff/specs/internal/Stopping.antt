-- What a stop is told for (own).
use Rattle.std.specs.Prelude.{ℕ, Bool, true, false}
use Rattle.sqpage.specs.declared.fault.Fault.TheVariants as faults
use Rattle.cli_show_rows.specs.declared.stop.Stop.{Stop}
use Rattle.cli_show_rows.specs.declared.stop.Stop.TheVariants.{Fault, Record, NotUnderstood}
use Rattle.cli_show_rows.specs.internal.Stopping.{stop_of_row}
use Rattle.sqdiff.specs.declared.error.SideError.{SideError}
use Rattle.sqdiff.specs.declared.error.SideError.TheVariants as sides
use Rattle.sqdiff.specs.declared.error.DiffError.{DiffError}
use Rattle.sqdiff.specs.declared.error.DiffError.TheVariants.{Old, New}

abbrev pub unordered : (root : ℕ) → (has_order : Bool) → Stop
unordered root true = Fault (record { page = root; fault = faults.KeyOrder })
unordered root false = NotUnderstood

abbrev pub stop_of_side : SideError → (root : ℕ) → (has_order : Bool) → Stop
stop_of_side (sides.Rows error) root has_order = stop_of_row error
stop_of_side (sides.Record error) root has_order = Record error
stop_of_side sides.Unordered root has_order = unordered root has_order

abbrev pub stop_of_diff : DiffError → (roots : ℕ × ℕ) → (has_order : Bool) → Stop
stop_of_diff (Old error) roots has_order = stop_of_side error roots.0 has_order
stop_of_diff (New error) roots has_order = stop_of_side error roots.1 has_order
