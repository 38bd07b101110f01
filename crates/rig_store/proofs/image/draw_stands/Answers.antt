use Rattle.std.proofs.Common.{arith}
use Rattle.rig_store.specs.Names.{is_ordered}
use Rattle.rig_store.specs.Stores.{store_of}
use Rattle.rig_store.proofs.NamesShown.{stand_by}
use Rattle.rig_store.proofs.image.draw_stands.Goals as goal

pub returns : goal.returns
returns g c =
    let s = store_of c.args.store.now in
    stand_by (is_ordered s.meta) s c.loop.stands.items c.draw_stand-all.result c.draw_stand-all.ensures (λ j less. c.loop.invariant.each j (omega (arith, less, c.loop-test.false)))
