use Rattle.std.proofs.Common.{sym, ◌∙◌, arith}
use Rattle.rig_store.specs.Stores.{store_of}
use Rattle.rig_store.proofs.NamesWithTornFiles.{found_none, among_more}
use Rattle.rig_store.proofs.torn.torn_among.Goals as goal

pub loop-name-preserved : goal.loop-name-preserved
loop-name-preserved g c =
    among_more (store_of c.args.store.now) c.args.from c.loop-name.name c.loop-name.invariant
    (found_none c.in_ok-found.found _ _ (sym c.is_some.ensures ∙ c.if-is_some.false) c.in_ok-found.ensures)

pub returns : goal.returns
returns g c = λ k n above below. c.loop-name.invariant k n above (omega (arith, below, c.loop-name-test.false))
