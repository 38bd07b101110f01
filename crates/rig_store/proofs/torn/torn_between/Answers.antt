use Rattle.std.proofs.Common.{sym, ◌∙◌, arith}
use Rattle.rig_store.specs.Stores.{store_of}
use Rattle.rig_store.proofs.NamesWithTornFiles.{found_none, between_more}
use Rattle.rig_store.proofs.torn.torn_between.Goals as goal

pub loop-stand-preserved : goal.loop-stand-preserved
loop-stand-preserved g c =
    between_more (store_of c.args.store.now) c.args.name c.args.from c.loop-stand.stand c.loop-stand.invariant
    (found_none c.in_ok-found.found _ _ (sym c.is_some.ensures ∙ c.if-is_some.false) c.in_ok-found.ensures)

pub returns : goal.returns
returns g c = λ n above below. c.loop-stand.invariant n above (omega (arith, below, c.loop-stand-test.false))
