use Rattle.rig_store.specs.Stores.{store_of}
use Rattle.rig_store.specs.internal.Tearing.{NoneTearsBetween}
use Rattle.rig_store.proofs.torn.torn_between.Given as goal

abbrev pub invariant-loop-stand : goal.invariant-loop-stand
invariant-loop-stand g l = NoneTearsBetween (store_of l.store) l.name l.from l.stand
