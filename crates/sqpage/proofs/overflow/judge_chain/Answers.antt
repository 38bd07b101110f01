use Rattle.sqpage.proofs.chain.OverflowChains.{stops, too_long}
use Rattle.sqpage.proofs.overflow.judge_chain.Goals as goal

pub returns-in-Ok-mark_chain-clause-stands : goal.returns-in-Ok-mark_chain-clause-stands
returns-in-Ok-mark_chain-clause-stands g c = λ right on.
    (λ is. absurd cc, λ other. too_long (g.S.PageSource.pages c.args.source.now) c.args.cell.now c.in-Ok-mark_chain.last on (c.in-Ok-mark_chain.ensures.ok right))

pub returns-in-Ok-clause-stands : goal.returns-in-Ok-clause-stands
returns-in-Ok-clause-stands g c = λ right on.
    let refused = c.in-Err-mark_chain.ensures.err right in
    (refused.0, λ other. stops (g.S.PageSource.pages c.args.source.now) c.args.cell.now c.in-Err-mark_chain.refusal.fault c.in-Err-mark_chain.refusal.page on (refused.1 other))
