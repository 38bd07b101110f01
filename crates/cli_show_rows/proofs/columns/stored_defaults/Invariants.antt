use Rattle.std.proofs.Common.{map, take}
use Rattle.std.specs.Prelude.{option_map}
use Rattle.sqdefaults.specs.Literals.{datum_in}
use Rattle.cli_show_rows.specs.Schemas.{AreDefaultsIn}
use Rattle.cli_show_rows.proofs.columns.stored_defaults.Given as goal

abbrev pub invariant-loop-named : goal.invariant-loop-named
invariant-loop-named l = AreDefaultsIn l.encoding (map (option_map datum_in) (take l.named-index l.found)) (map (option_map datum_in) l.stored.items)
