use Rattle.std.proofs.Common.{take}
use Rattle.std.specs.Prelude.{map}
use Rattle.sqschema.specs.Items.{seen}
use Rattle.sqschema.specs.internal.Judging.{HoldsOwners}
use Rattle.sqschema.proofs.owners.owners.Given as goal

abbrev pub invariant-items : goal.invariant-items
invariant-items l = HoldsOwners l.views (take l.i (map seen l.items)) l.names
