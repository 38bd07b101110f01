use Rattle.walcore.proofs.Facts.{arith, sym, ◌∙◌}
use Rattle.walcore.proofs.paging.judge_read.Goals as goal

pub returns-then-page-size-clause-judged : goal.returns-then-page-size-clause-judged
returns-then-page-size-clause-judged c = (c.if-not-is_open.false, omega arith, omega arith)

pub returns-then-room-get-clause-judged : goal.returns-then-room-get-clause-judged
returns-then-room-get-clause-judged c = (c.if-not-is_open.false, omega arith, c.if-page-size.false, λ same. c.if-room-get.true (same ∙ sym c.get.ensures.value))

pub returns-clause-judged : goal.returns-clause-judged
returns-clause-judged c = (c.if-not-is_open.false, omega arith, c.if-page-size.false, c.if-room-get.false ∙ c.get.ensures.value)
