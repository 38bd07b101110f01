use Rattle.walcore.proofs.Facts.{arith, few_frames, judged, judged_large, judged_other, sym, ◌*◌, ◌<◌, ◌∙◌, ◌≡◌, ◌≤◌}
use Rattle.walcore.proofs.plan.judge_frames.Goals as goal

pub returns-then-from-bytes : goal.returns-then-from-bytes
returns-then-from-bytes c = λ w took header.
    let same : c.from.result * c.from-2.result ≡ c.committed-front.result.size * c.args.named = cc in
    let more : c.args.limits.bytes < c.committed-front.result.size * c.args.named = omega (arith, c.bytes.ensures.value, c.if-from-bytes.true) in
    judged_large c.args.limits c.args.page_size c.args.named w header c.committed-front.result (c.committed-front.ensures _ w took) more

pub returns-then-get : goal.returns-then-get
returns-then-get c = λ w took header.
    let same : c.from.result * c.from-2.result ≡ c.committed-front.result.size * c.args.named = cc in
    let less : c.committed-front.result.size * c.args.named ≤ c.args.limits.bytes = omega (arith, c.bytes.ensures.value, c.if-from-bytes.false) in
    judged_other c.args.limits c.args.page_size c.args.named w header c.committed-front.result (c.committed-front.ensures _ w took)
    (few_frames w c.args.scan.now took) less
    (λ e. c.if-get.true (c.get-2.ensures.value ∙ e ∙ sym c.get-3.ensures.value))

pub returns : goal.returns
returns c = λ w took header.
    let same : c.from.result * c.from-2.result ≡ c.committed-front.result.size * c.args.named = cc in
    let less : c.committed-front.result.size * c.args.named ≤ c.args.limits.bytes = omega (arith, c.bytes.ensures.value, c.if-from-bytes.false) in
    judged c.args.limits c.args.page_size c.args.named w header c.committed-front.result (c.committed-front.ensures _ w took)
    (few_frames w c.args.scan.now took) less (omega (arith, c.bytes.ensures.value, c.bytes.ensures.within))
    (sym c.get-2.ensures.value ∙ c.if-get.false ∙ c.get-3.ensures.value)
