use Rattle.std.proofs.Common.{◌≡◌, ◌++◌, take}
use Rattle.std.specs.List.{flat_map}
use Rattle.sqtext.specs.Texts.{unit_bytes}
use Rattle.sqtext.proofs.stored.add_units.Given as goal

abbrev pub invariant-loop-unit : goal.invariant-loop-unit
invariant-loop-unit l = l.bytes.items ≡ l.initial.bytes.items ++ flat_map (unit_bytes l.big) (take l.unit-index l.units)
