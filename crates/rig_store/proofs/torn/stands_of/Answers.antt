use Rattle.std.proofs.Common.{refl, arith}
use Rattle.rig_store.specs.Names.{is_ordered}
use Rattle.rig_store.specs.Stores.{store_of}
use Rattle.rig_store.proofs.NamesShown.{stand_by}
use Rattle.rig_store.proofs.torn.stands_of.Goals as goal

pub returns : goal.returns
returns g c =
    let s = store_of c.args.store.now in
    let torn = c.args.torn.now in
    let each = c.loop-other.invariant.each in
    record {
      by = stand_by (is_ordered s.meta) s c.loop-other.stands.items torn.stand c.requires.stands (λ j less. let at = each j (omega (arith, less, c.loop-other-test.false)) in (at.0, at.1));
      own = (each torn.name (omega (arith, c.requires.name, c.loop-other-test.false))).2 refl;
    }
