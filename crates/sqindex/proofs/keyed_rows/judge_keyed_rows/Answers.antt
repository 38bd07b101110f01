use Rattle.sqindex.proofs.KeyedScanned.{refutes}
use Rattle.sqindex.proofs.keyed_rows.judge_keyed_rows.Goals as goal

pub returns-clause-none : goal.returns-clause-none
returns-clause-none g c = λ right. refutes c.args.key.now (g.S.PageSource.pages c.args.source.now) c.args.table c.scan_keyed.result (c.scan_keyed.ensures.err right)
