use Rattle.std.proofs.Common.{◌≡◌, ℕ, ◌<◌, map, slice_get, Some}
use Rattle.std.proofs.Common.{true}
use Rattle.std.specs.Str.{str_eq_ignore_ascii_case}
use Rattle.sqschema.specs.Items.{Item as SpecItem, seen}
use Rattle.sqschema.specs.Rules.{is_table}
use Rattle.sqcontents.proofs.items.table_of.Given as goal

abbrev pub invariant-items : goal.invariant-items
invariant-items l = (k : ℕ) (y : SpecItem) → k < l.i → slice_get (map seen l.items) k ≡ Some y → is_table y ≡ true
    → ¬ (str_eq_ignore_ascii_case (seen l.index).table y.name ≡ true)
