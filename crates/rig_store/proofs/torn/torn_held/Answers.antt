use Rattle.rig_store.specs.Stores.{store_of}
use Rattle.rig_store.proofs.NamesWithTornFiles.{found_at_none, none_tears}
use Rattle.rig_store.proofs.torn.torn_held.Goals as goal

pub returns-in-None : goal.returns-in-None
returns-in-None g c =
    none_tears (store_of c.args.store.now) c.args.name c.args.stand c.args.file c.requires.holds
    (found_at_none c.in_ok-found.found _ _ c.in-None.is c.in_ok-found.ensures)
