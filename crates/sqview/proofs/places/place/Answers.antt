use Rattle.std.proofs.Common.{◌+◌, ◌*◌, ◌-◌, ◌∙◌, ap}
use Rattle.sqview.proofs.place.PlacesOfLastFrames.{content_place}
use Rattle.sqview.proofs.places.place.Goals as goal

pub returns : goal.returns
returns c =
    ap (λ n. 32 + n * (24 + c.from-2.result) + 24) c.from.ensures
    ∙ ap (λ s. 32 + (c.args.frame - 1) * (24 + s) + 24) (c.from-2.ensures ∙ c.get.ensures.value)
    ∙ content_place c.args.page_size c.args.frame
