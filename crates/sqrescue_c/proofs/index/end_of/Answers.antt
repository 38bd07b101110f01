use Rattle.std.proofs.Common.{◌≡◌, ℕ, suc, ◌+◌, ◌-◌, ◌*◌, ap, ◌∙◌, arith}
use Rattle.sqwal.specs.Frames.{frame_at}
use Rattle.sqrescue_c.proofs.index.end_of.Goals as goal

pub returns : goal.returns
unfolding frame_at
returns c =
    let before : c.args.head.now.frames ≡ suc c.args.head.now.frames - 1 = omega arith in
    record {
      none = λ e. absurd (c.if-head-eq0.false e);
      some = λ _. ap (λ (n : ℕ). 32 + n * (24 + c.from-2.result)) c.from.ensures
          ∙ ap (λ (n : ℕ). 32 + c.args.head.now.frames * (24 + n)) (c.from-2.ensures ∙ c.get.ensures.value)
          ∙ ap (λ (n : ℕ). 32 + n * (24 + c.args.head.now.page_size)) before;
    }
