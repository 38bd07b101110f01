use Rattle.std.proofs.Common.{◌≡◌, ℕ, ◌+◌, length, sym, ◌∙◌, subst, arith}
use Rattle.std.proofs.lemmas.Result.{IfOk-weaker}
use Rattle.rig_store.specs.Stores.{store_of}
use Rattle.rig_store.specs.internal.Tearing.{NoneTearsBetween}
use Rattle.rig_store.proofs.NamesWithTornFiles.{found_none, found_between}
use Rattle.rig_store.proofs.torn.torn_name.Goals as goal

pub returns : goal.returns
returns g c =
    let s = store_of c.args.store.now in
    let k = c.args.name in
    let at = c.draw_stand-at.result in
    let past = found_none c.in_ok-found.found _ _ (sym c.is_some.ensures ∙ c.if-is_some.false) c.in_ok-found.ensures in
    let long : c.len.result ≡ length s.log = omega (arith, c.len.ensures, c.args.store.now.log.ok.0) in
    let behind = subst (λ (n : ℕ). NoneTearsBetween s k at (n + 1)) long past in
    IfOk-weaker c.torn_between-2.result _ _ (λ found is. found_between s k at found behind is) c.torn_between-2.ensures
