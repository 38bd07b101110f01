use Rattle.sqindex.proofs.RowsGiven.{given_ahead, given_end}
use Rattle.sqindex.proofs.rows.Rows.advance.Goals as goal

pub returns-in-Row-clause-ok : goal.returns-in-Row-clause-ok
returns-in-Row-clause-ok g c = λ right table given w. given_ahead (g.S.PageSource.pages c.args.source.now) table c.args.self.now given w c.in-Row.found c.in-Row.is

pub returns-in-End-clause-ok : goal.returns-in-End-clause-ok
returns-in-End-clause-ok g c = λ right table given w. given_end (g.S.PageSource.pages c.args.source.now) table c.args.self.now given w c.in-End.is
