use Rattle.sqindex.proofs.RowsScanned.{refutes}
use Rattle.sqindex.proofs.table.judge_rows.Goals as goal

pub returns-clause-none : goal.returns-clause-none
returns-clause-none g c = λ right. refutes c.args.rules.now (g.S.PageSource.pages c.args.source.now) c.args.table c.scan_rows.result (c.scan_rows.ensures.err right)
