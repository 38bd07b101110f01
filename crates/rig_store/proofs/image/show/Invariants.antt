use Rattle.std.proofs.Common.{map}
use Rattle.std.specs.Option.{option_map}
use Rattle.rig_store.specs.Stores.{store_of}
use Rattle.rig_store.specs.internal.Showing.{AreShown}
use Rattle.rig_store.proofs.image.show.Given as goal

abbrev pub invariant-loop-name : goal.invariant-loop-name
invariant-loop-name l = AreShown (store_of l.fn.store) (map (λ v. v.items) l.fn.contents) l.fn.stands l.name (map (λ bytes. option_map (λ v. v.items) bytes) l.files.items)
