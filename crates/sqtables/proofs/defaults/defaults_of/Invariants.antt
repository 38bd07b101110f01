use Rattle.std.proofs.Common.{◌≡◌, map, take}
use Rattle.std.specs.Prelude.{option_map}
use Rattle.sqdefaults.specs.Literals.{datum_in}
use Rattle.sqtables.specs.Defaults.{default_for}
use Rattle.sqtables.proofs.defaults.defaults_of.Given as goal

abbrev pub invariant-loop-column : goal.invariant-loop-column
invariant-loop-column l = map (option_map datum_in) l.defaults.items ≡ map (default_for l.def) (take l.column-index l.columns)
