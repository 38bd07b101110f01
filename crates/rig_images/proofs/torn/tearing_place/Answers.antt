use Rattle.std.proofs.Common.{◌≡◌, ℕ, ◌+◌, ◌<◌, List, length, get_or, ap, sym, subst, arith}
use Rattle.std.proofs.lemmas.List.{get_or_default}
use Rattle.std.specs.List.{Contains}
use Rattle.crashdisk.specs.Model.{state_of}
use Rattle.rig_play.specs.Plays.{files_of, epoch_now, epochs_of}
use Rattle.rig_play.specs.declared.meta.Epoch.{Epoch}
use Rattle.rig_play.specs.declared.meta.Holds.TheVariants.{Any}
use Rattle.rig_images.specs.Torn.{IsPlace}
use Rattle.rig_images.specs.internal.Tearing.{NoneIn}
use Rattle.rig_images.proofs.TearingPlaces.{found_of, option_weaker, epochs_more, place_of, none_tears, has_now, has_earlier}
use Rattle.rig_images.proofs.torn.tearing_place.Goals as goal

pub loop-i-init : goal.loop-i-init
loop-i-init g c =
    let s = files_of c.args.player.now in
    let w = c.args.which in
    let e = c.epoch.result in
    option_weaker c.place_in-found.result _ _ _ (λ p. IsPlace s w p.epoch (state_of p.disk.now) p.sector)
    (λ none. (subst (λ (x : Epoch). NoneIn s w x) c.epoch.ensures none, λ i d less within at. absurd (omega arith)))
    (λ p is. place_of s w e p.epoch (state_of p.disk.now) p.sector (subst (λ (x : Epoch). Contains (epochs_of s) x) (sym c.epoch.ensures) (has_now s)) is)
    c.place_in-found.ensures

pub loop-i-preserved : goal.loop-i-preserved
loop-i-preserved g c =
    let s = files_of c.args.player.now in
    let w = c.args.which in
    let earlier = c.earlier-earlier.result.now in
    let i = c.loop-i.i in
    let any : Epoch = record { db = Any; wal = Any; journal = Any } in
    let here : Epoch = get_or earlier i any in
    let at : get_or earlier i here ≡ here = get_or_default earlier i here any c.loop-i-test.true in
    let within : i < length s.earlier = subst (λ (l : List Epoch). i < length l) c.earlier-earlier.ensures c.loop-i-test.true in
    let has = has_earlier s i here within (subst (λ (l : List Epoch). get_or l i here ≡ here) c.earlier-earlier.ensures at) in
    found_of c.loop-i.found c.place_in-more.result c.either-found.result _ (NoneIn s w here) _ (λ p. IsPlace s w p.epoch (state_of p.disk.now) p.sector)
    c.loop-i.invariant
    (option_weaker c.place_in-more.result _ (NoneIn s w here) _ (λ p. IsPlace s w p.epoch (state_of p.disk.now) p.sector)
    (λ none. none) (λ p is. place_of s w here p.epoch (state_of p.disk.now) p.sector has is) c.place_in-more.ensures)
    c.either-found.ensures.none c.either-found.ensures.one (epochs_more s w earlier i here c.loop-i-test.true at)

pub returns : goal.returns
returns g c =
    let s = files_of c.args.player.now in
    let w = c.args.which in
    let earlier = c.earlier-earlier.result.now in
    let end : c.loop-i.i ≡ length earlier = omega (arith, c.loop-i.auto.i-end, c.loop-i-test.false) in
    option_weaker c.loop-i.found _ _ _ (λ p. IsPlace s w p.epoch (state_of p.disk.now) p.sector)
    (λ none. none_tears s w none.0 (λ i e less at. none.1 i e (let l : i < c.loop-i.i = omega (arith, end, ap (λ (l : List Epoch). length l) c.earlier-earlier.ensures) in l)
    (omega (arith, ap (λ (l : List Epoch). length l) c.earlier-earlier.ensures)) (subst (λ (l : List Epoch). get_or l i e ≡ e) (sym c.earlier-earlier.ensures) at)))
    (λ p is. is) c.loop-i.invariant
