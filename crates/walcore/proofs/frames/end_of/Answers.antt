use Rattle.walcore.proofs.Facts.{ap, frame_end, ℕ, ◌*◌, ◌+◌, ◌∙◌}
use Rattle.walcore.proofs.frames.end_of.Goals as goal

pub returns : goal.returns
unfolding frame_end
returns c = ap (λ (n : ℕ). 32 + n * (24 + c.from-2.result)) c.from.ensures ∙ ap (λ (n : ℕ). 32 + c.args.core.now.frames * (24 + n)) (c.from-2.ensures ∙ c.get.ensures.value)
