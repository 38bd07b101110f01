use Rattle.sqindex.proofs.IndexesRefuted.{refutes}
use Rattle.sqindex.proofs.judge.judge_index.Goals as goal

pub returns-clause-none : goal.returns-clause-none
returns-clause-none g c = λ right.
    refutes (g.S.PageSource.pages c.args.source.now) c.args.table c.args.index c.args.key.now c.args.limit c.judge_any.result (c.judge_any.ensures.err right)
