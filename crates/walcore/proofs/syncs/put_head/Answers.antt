use Rattle.walcore.proofs.Facts.{IsFrameHead, List, ap, drop, length, subst, take_rest, ℕ, ◌++◌, ◌∙◌, ◌≡◌}
use Rattle.walcore.proofs.syncs.put_head.Goals as goal

pub returns : goal.returns
returns c =
    let long : length c.frame_head.result.0 ≡ 24 = ap length c.frame_head.ensures.bytes in
    record { head = c.frame_head.result.0; made = subst (λ (x : List ℕ). IsFrameHead c.args.header.now c.args.before c.args.page c.args.size x c.frame_head.result.0 c.frame_head.result.1) (take_rest c.args.frame.now 24) c.frame_head.ensures; bytes = c.put_front.ensures ∙ ap (λ (k : ℕ). c.frame_head.result.0 ++ drop k c.args.frame.now) long }
