use Rattle.std.proofs.Common.{◌≡◌}
use Rattle.sqpage.specs.Lists.{each_from}
use Rattle.sqdeep.specs.Texts.{unit}
use Rattle.sqschema.proofs.text.units.Given as goal

abbrev pub invariant-loop-k : goal.invariant-loop-k
invariant-loop-k l = l.units.items ≡ each_from 0 l.k (unit l.big l.bytes)
