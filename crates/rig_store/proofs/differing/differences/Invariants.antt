use Rattle.rig_store.specs.Differing.{AreDifferences}
use Rattle.rig_store.specs.Left.{image_of}
use Rattle.rig_store.specs.Stores.{store_of}
use Rattle.rig_store.proofs.differing.differences.Given as goal

abbrev pub invariant-loop-name : goal.invariant-loop-name
invariant-loop-name l = AreDifferences (store_of l.fn.store).sector l.name (image_of l.image) (image_of l.now) l.found.items
