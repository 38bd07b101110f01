use Rattle.rig_store.specs.Stores.{store_of}
use Rattle.rig_store.specs.internal.Tearing.{NoneTearsAmong}
use Rattle.rig_store.proofs.torn.torn_among.Given as goal

abbrev pub invariant-loop-name : goal.invariant-loop-name
invariant-loop-name g l = NoneTearsAmong (store_of l.store) l.from l.name
