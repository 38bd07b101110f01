use Rattle.std.proofs.Common.{◌≡◌, inl, inr, true, false, sym, ◌∙◌}
use Rattle.rig_play.specs.Plays.{files_of}
use Rattle.rig_images.specs.Left.{MayLeave}
use Rattle.rig_shrink.proofs.PiecesDown.{stands}
use Rattle.rig_shrink.proofs.shrinking.Ground.may_stand.Goals as goal

pub returns-then-are_alike : goal.returns-then-are_alike
returns-then-are_alike g c = inl (c.are_alike.ensures.0 c.if-are_alike.true)

pub returns-then-not-left : goal.returns-then-not-left
returns-then-not-left g c = inr (inl (λ may. let no : true ≡ false = sym (c.in_ok-left.ensures.1 may) ∙ c.if-not-left.true in absurd (cc no)))

pub returns : goal.returns
returns g c =
    let self = c.args.self.now in
    let next = c.args.next.now in
    stands c.in_ok-found.found (MayLeave (files_of self.player.now) next) _ _ (g.F.Finder.says self.finder.now next) (c.in_ok-left.ensures.0 c.if-not-left.false) c.in_ok-found.ensures
