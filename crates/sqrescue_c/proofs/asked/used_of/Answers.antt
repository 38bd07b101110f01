use Rattle.sqrescue_c.proofs.AskedViews.{only_memory}
use Rattle.sqrescue_c.proofs.asked.used_of.Goals as goal

pub returns-in-Ok-clause-used : goal.returns-in-Ok-clause-used
returns-in-Ok-clause-used g c = λ gives.
    let w = c.args.whole in
    c.in-Ok.ensures.used (g.met.F.FileBytes.right w.db gives.0, g.met.F.FileBytes.right w.log gives.1)

pub returns-in-Ok-clause-counts : goal.returns-in-Ok-clause-counts
returns-in-Ok-clause-counts g c = λ gives.
    let w = c.args.whole in
    c.in-Ok.ensures.counts (g.met.F.FileBytes.right w.db gives.0, g.met.F.FileBytes.right w.log gives.1)

pub returns-in-Err-clause-refused : goal.returns-in-Err-clause-refused
returns-in-Err-clause-refused g c = λ gives. only_memory c.in-Err.error c.in-Err.ensures.refused.0 (c.in-Err.ensures.read gives)
