use Rattle.walcore.proofs.Facts.{arith, judged_none}
use Rattle.walcore.proofs.plan.judge.Goals as goal

pub returns-in-None : goal.returns-in-None
returns-in-None c = λ w took. judged_none c.args.page_size w (λ header. omega (arith, header.whole, c.in-None.ensures _ w took)) c.args.limits c.committed.result (c.committed.ensures _ w took)

pub returns-in-Some : goal.returns-in-Some
returns-in-Some c = λ w took. c.judge_frames.ensures w took (c.in-Some.ensures _ w took).1.valid
