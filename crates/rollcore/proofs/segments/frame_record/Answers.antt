use Rattle.rollcore.proofs.Facts.{ap, arith, big_bytes, drop, framed, length, nonce_sum, take, ℕ, ◌++◌, ◌+◌, ◌-◌, ◌∙◌, ◌≡◌}
use Rattle.rollcore.proofs.segments.frame_record.Goals as goal

pub returns : goal.returns
returns c =
    let r = c.args.buffer.now in
    let short : length r - 4 - 4 ≡ length r - 8 = omega arith in
    framed r c.put_word.new.bytes c.put_word-2.new.bytes c.args.page c.args.nonce c.requires c.put_word.ensures
    (c.put_word-2.ensures ∙ ap (λ (s : ℕ). take (length r - 4) c.put_word.new.bytes ++ big_bytes 4 s ++ drop (length r - 4 + 4) c.put_word.new.bytes)
    (c.page_sum-sum.ensures ∙ ap (λ (n : ℕ). nonce_sum c.args.nonce (take n (drop 4 r))) short))
