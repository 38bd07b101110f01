use Rattle.cli_show_deleted.proofs.CellsTold.{begins_cell, walked_none, walked_more, walked_all}
use Rattle.cli_show_deleted.proofs.page.print_cells.Goals as goal

pub cells-init : goal.cells-init
cells-init g c = walked_none c.args.cells c.args.layout.form (g.W.Write.contents c.args.out.now)

pub cells-preserved : goal.cells-preserved
cells-preserved g c =
    let n = c.in-Some.ensures in
    let now = c.cells.left in
    let new = c.next_cell.new.self in
    let cell = c.in-Some.cell in
    let begins = begins_cell now new cell n.moves in
    let t = c.in-Ok.ensures.ok begins in
    walked_more c.args.cells now new c.args.layout.form cell t.0 (g.W.Write.contents c.args.out.now) (g.W.Write.contents c.cells.out) (g.W.Write.contents c.print_cell.new.out) c.cells.invariant
    n.moves n.same.0 n.same.1 t.1 t.2

pub returns-in_default-clause-ok : goal.returns-in_default-clause-ok
returns-in_default-clause-ok g c =
    walked_all c.args.cells c.cells.left c.next_cell.new.self c.args.layout.form (g.W.Write.contents c.args.out.now) (g.W.Write.contents c.cells.out) c.cells.invariant c.in_default.ensures.moves
