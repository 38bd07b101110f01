use Rattle.std.proofs.Common.{◌≡◌, ℕ, ◌+◌, ◌-◌, ◌*◌, ap, ◌∙◌}
use Rattle.sqwal.specs.Frames.{frame_at}
use Rattle.sqlocks_c.proofs.index.place_of.Goals as goal

pub returns : goal.returns
unfolding frame_at
returns c = record {
  none = λ e. absurd (c.if-head-eq0.false e);
  some = λ _. ap (λ (n : ℕ). 32 + n * (24 + c.from-2.result)) c.from.ensures
      ∙ ap (λ (n : ℕ). 32 + (c.args.head.now.frames - 1) * (24 + n)) (c.from-2.ensures ∙ c.get.ensures.value);
}
