use Rattle.std.proofs.Common.{◌≡◌, ◌-◌, ◌++◌, map, take}
use Rattle.sqkeys.specs.Columns.{value_of}
use Rattle.sqkeydiff.proofs.key.first_values.Given as goal

abbrev pub invariant-fields : goal.invariant-fields
invariant-fields l = l.values ++ map value_of (take (l.width - l.i) l.columns) ≡ map value_of (take l.width l.stored)
