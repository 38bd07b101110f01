use Rattle.std.proofs.Common.{inr}
use Rattle.std.proofs.lemmas.Result.{IfOk-weaker}
use Rattle.rig_store.specs.Stores.{store_of}
use Rattle.rig_store.specs.Torn.{NoNameTears}
use Rattle.rig_store.proofs.NamesWithTornFiles.{found_at_none, no_name}
use Rattle.rig_store.proofs.torn.draw_torn.Goals as goal

pub returns-in-None : goal.returns-in-None
returns-in-None g c =
    let s = store_of c.args.store.now in
    let none : NoNameTears s = no_name s (found_at_none c.in_ok-found.found _ _ c.in-None.is c.in_ok-found.ensures) in
    IfOk-weaker c.draw.result _ _ (λ image left. inr (none, left)) c.draw.ensures
