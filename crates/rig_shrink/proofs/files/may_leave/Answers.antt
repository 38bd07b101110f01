use Rattle.std.proofs.Common.{◌≡◌, ◌↔◌, inl, inr, ℕ, ◌<◌, List, length, get_or, true, false, refl, sym, ◌∙◌, ap, subst, arith}
use Rattle.std.proofs.lemmas.List.{get_or_default}
use Rattle.std.specs.List.{Contains}
use Rattle.rig_play.specs.Plays.{files_of, epoch_now, epochs_of}
use Rattle.rig_play.specs.declared.meta.Epoch.{Epoch}
use Rattle.rig_play.specs.declared.meta.Holds.TheVariants.{Any}
use Rattle.rig_images.specs.Left.{MayLeaveIn}
use Rattle.rig_images.proofs.TearingPlaces.{has_now, has_earlier}
use Rattle.rig_shrink.proofs.Searches.{none_more, none_epochs}
use Rattle.rig_shrink.proofs.files.may_leave.Goals as goal

pub loop-i-init : goal.loop-i-init
loop-i-init c = λ m x less within at. absurd (omega arith)

pub returns-then-found : goal.returns-then-found
returns-then-found c =
    let s = files_of c.args.player.now in
    let image = c.args.image.now in
    let earlier = c.earlier-earlier.result.now in
    let i = c.loop-i.i in
    let any : Epoch = record { db = Any; wal = Any; journal = Any } in
    let here : Epoch = get_or earlier i any in
    let at : get_or earlier i here ≡ here = get_or_default earlier i here any c.loop-i-test.true in
    let within : i < length s.earlier = subst (λ (l : List Epoch). i < length l) c.earlier-earlier.ensures c.loop-i-test.true in
    let has = has_earlier s i here within (subst (λ (l : List Epoch). get_or l i here ≡ here) c.earlier-earlier.ensures at) in
    (λ yes. (here, has, c.in_ok-found.ensures.0 c.if-found.true), λ left. refl)

pub loop-i-preserved : goal.loop-i-preserved
loop-i-preserved c =
    let s = files_of c.args.player.now in
    let image = c.args.image.now in
    let earlier = c.earlier-earlier.result.now in
    let i = c.loop-i.i in
    let any : Epoch = record { db = Any; wal = Any; journal = Any } in
    let here : Epoch = get_or earlier i any in
    let at : get_or earlier i here ≡ here = get_or_default earlier i here any c.loop-i-test.true in
    none_more (λ (e : Epoch). MayLeaveIn s e image) earlier i here at c.loop-i.invariant
    (λ left. let no : true ≡ false = sym (c.in_ok-found.ensures.1 left) ∙ c.if-found.false in absurd (cc no))

pub returns : goal.returns
returns c =
    let s = files_of c.args.player.now in
    let image = c.args.image.now in
    let is = subst (λ (e : Epoch). (c.in_ok-last.last ≡ true) ↔ MayLeaveIn s e image) c.epoch.ensures c.in_ok-last.ensures in (
      λ yes. (epoch_now s, has_now s, is.0 yes),
      λ left. elim (none_epochs (λ (e : Epoch). MayLeaveIn s e image) s c.earlier-earlier.result.now c.loop-i.i left.0 c.earlier-earlier.ensures c.loop-i-test.false c.loop-i.invariant left.1) [
        | inl now ↦ is.1 (subst (λ (e : Epoch). MayLeaveIn s e image) now left.2)
        | inr none ↦ absurd (none left.2)
      ],
    )
