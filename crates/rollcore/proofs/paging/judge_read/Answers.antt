use Rattle.rollcore.proofs.Facts.{ReadJudged, arith, sym, ◌∙◌}
use Rattle.rollcore.proofs.paging.judge_read.Goals as goal

pub returns-then-not-core-clause-judged : goal.returns-then-not-core-clause-judged
unfolding ReadJudged
returns-then-not-core-clause-judged c = c.if-not-core.true

pub returns-then-page-eq0-clause-judged : goal.returns-then-page-eq0-clause-judged
unfolding ReadJudged
returns-then-page-eq0-clause-judged c = (c.if-not-core.false, c.if-page-eq0.true)

pub returns-then-page-core-clause-judged : goal.returns-then-page-core-clause-judged
unfolding ReadJudged
returns-then-page-core-clause-judged c = (c.if-not-core.false, omega arith, omega arith)

pub returns-then-room-get-clause-judged : goal.returns-then-room-get-clause-judged
unfolding ReadJudged
returns-then-room-get-clause-judged c = (c.if-not-core.false, omega arith, c.if-page-core.false, λ same. c.if-room-get.true (same ∙ sym c.get.ensures.value))

pub returns-clause-judged : goal.returns-clause-judged
unfolding ReadJudged
returns-clause-judged c = (c.if-not-core.false, omega arith, c.if-page-core.false, c.if-room-get.false ∙ c.get.ensures.value)
