use Rattle.sqrows.specs.Rows.{Row}
use Rattle.sqkeydiff.proofs.diff.KeyDiff.are_alike.Goals as goal

pub returns-clause-ok : goal.returns-clause-ok
returns-clause-ok c =
    let r : Row = record { rowid = c.in-Ok.row.rowid; values = c.in-Ok.row.values } in
    let s : Row = record { rowid = c.in-Ok-row.row.rowid; values = c.in-Ok-row.row.values } in
    (r, s, c.in-Ok.ensures.ok, c.in-Ok-row.ensures.ok, c.are_same.ensures)
