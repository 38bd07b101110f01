use Rattle.std.proofs.Common.{◌≡◌, take}
use Rattle.rig_store.specs.Names.{holder}
use Rattle.rig_store.proofs.table.holder.Given as goal

abbrev pub invariant-loop-naming : goal.invariant-loop-naming
invariant-loop-naming l = l.file ≡ holder (take l.naming-index l.log) l.name
