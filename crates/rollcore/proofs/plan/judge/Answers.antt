use Rattle.rollcore.proofs.Facts.{arith, inl, inr, judged_below, judged_fit, judged_large, ◌*◌, ◌<◌, ◌≡◌, ◌≤◌}
use Rattle.rollcore.proofs.plan.judge.Goals.{then-page_size-torn-via-then-page_size-torn, then-page_size-torn-via-else-page_size-torn+then-header-torn}
use Rattle.rollcore.proofs.plan.judge.Goals as goal

pub returns-then-from-bytes-clause-judged : goal.returns-then-from-bytes-clause-judged
returns-then-from-bytes-clause-judged c = λ w hot names.
    let same : c.from.result * c.from-2.result ≡ c.args.header.now.first_size * c.args.header.now.page_size = cc in
    let more : c.args.limits.bytes < c.args.header.now.first_size * c.args.header.now.page_size = omega (arith, c.if-from-bytes.true, c.bytes.ensures.value) in
    judged_large c.args.limits.bytes c.args.torn w hot c.args.header.now names more

pub returns-then-page_size-torn-clause-judged : goal.returns-then-page_size-torn-clause-judged
returns-then-page_size-torn-clause-judged c = λ w hot names.
    let same : c.from.result * c.from-2.result ≡ c.args.header.now.first_size * c.args.header.now.page_size = cc in
    let less : c.args.header.now.first_size * c.args.header.now.page_size ≤ c.args.limits.bytes = omega (arith, c.if-from-bytes.false, c.bytes.ensures.value) in
    judged_below c.args.limits.bytes c.args.torn w hot c.args.header.now names less (elim c.then-page_size-torn.branch [
      | then-page_size-torn-via-then-page_size-torn x ↦ inl (omega (arith, x.if-page_size-torn.true, c.get-page_size.ensures.value))
      | then-page_size-torn-via-else-page_size-torn+then-header-torn x ↦ inr x.if-header-torn.true
    ])

pub returns-clause-judged : goal.returns-clause-judged
returns-clause-judged c = λ w hot names.
    let same : c.from.result * c.from-2.result ≡ c.args.header.now.first_size * c.args.header.now.page_size = cc in
    let less : c.args.header.now.first_size * c.args.header.now.page_size ≤ c.args.limits.bytes = omega (arith, c.if-from-bytes.false, c.bytes.ensures.value) in
    judged_fit c.args.limits.bytes c.args.torn w hot c.args.header.now names less tt (omega (arith, c.if-page_size-torn.false, c.get-page_size.ensures.value)) c.if-header-torn.false
