use Rattle.sqindex.proofs.CellsTaken.{none_taken}
use Rattle.sqindex.proofs.RowsSeen.{none_seen}
use Rattle.sqindex.proofs.rows.Rows.new.Goals as goal

pub returns-in-Ok-clause-ok : goal.returns-in-Ok-clause-ok
returns-in-Ok-clause-ok g c = λ gives.
    let d = g.S.PageSource.pages c.args.source.now in
    let e = c.in-Ok.ensures in
    let cells = c.in-Ok.walk.cells in
    record { over = (e.ok gives).0; limited = e.size.1; are = none_seen d c.args.table cells (none_taken d c.args.table cells (e.ok gives).1) }

pub returns-in-Err-clause-err : goal.returns-in-Err-clause-err
returns-in-Err-clause-err g c = λ gives. let e = c.in-Err.ensures.err gives in (e.0, λ other rows has. e.1 other has.stored.0 has.stored.1)
