use Rattle.std.proofs.Common.{◌+◌, ◌-◌, ◌/◌, ◌∙◌, ap}
use Rattle.sqview.proofs.place.FrameOfPlace.{frame_back}
use Rattle.sqview.proofs.view.origin.frame_of.Goals as goal

pub returns : goal.returns
returns c = λ i one is.
    ap (λ n. n / (24 + c.from.result) + 1) c.saturating_sub.ensures ∙ ap (λ s. (c.args.at - 56) / (24 + s) + 1) (c.from.ensures ∙ c.get.ensures.value)
    ∙ frame_back c.args.page_size c.args.at i one is
