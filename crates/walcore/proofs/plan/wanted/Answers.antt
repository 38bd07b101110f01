use Rattle.walcore.proofs.Facts.{named_size, wanted_high, wanted_low}
use Rattle.walcore.proofs.plan.wanted.Goals as goal

pub returns-then-entry-size-clause-page : goal.returns-then-entry-size-clause-page
returns-then-entry-size-clause-page c = λ most w took valid. wanted_low (named_size w) c.args.size w c.args.frame _ (c.in-Some.ensures _ w took).1 c.if-entry-size.true

pub returns-else-entry-size-clause-page : goal.returns-else-entry-size-clause-page
returns-else-entry-size-clause-page c = λ most w took valid. wanted_high (named_size w) c.args.size w c.args.frame _ (c.in-Some.ensures _ w took).1 c.if-entry-size.false

pub returns-in-None-clause-page : goal.returns-in-None-clause-page
returns-in-None-clause-page c = λ most w took valid. absurd (c.in-None.ensures _ w took valid)
