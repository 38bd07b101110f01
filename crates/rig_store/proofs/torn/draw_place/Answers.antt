use Rattle.std.proofs.Common.{sym, ◌∙◌}
use Rattle.std.proofs.lemmas.Result.{IfOk-weaker}
use Rattle.rig_store.specs.Stores.{store_of}
use Rattle.rig_store.proofs.NamesWithTornFiles.{found_none, found_among}
use Rattle.rig_store.proofs.torn.draw_place.Goals as goal

pub returns : goal.returns
returns g c =
    let behind = found_none c.in_ok-found.found _ _ (sym c.is_some.ensures ∙ c.if-is_some.false) c.in_ok-found.ensures in
    IfOk-weaker c.torn_among-2.result _ _ (λ found is. found_among (store_of c.args.store.now) _ found behind is) c.torn_among-2.ensures
