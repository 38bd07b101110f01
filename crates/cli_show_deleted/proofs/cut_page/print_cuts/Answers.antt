use Rattle.cli_show_deleted.proofs.CutsTold.{cut_walked_none, cut_walked_more, cut_walked_all}
use Rattle.cli_show_deleted.proofs.cut_page.print_cuts.Goals as goal

pub cells-init : goal.cells-init
cells-init g c = cut_walked_none c.args.cells c.args.layout.form (g.W.Write.contents c.args.out.now)

pub cells-preserved : goal.cells-preserved
cells-preserved g c =
    let n = c.in-Some.ensures in
    let t = c.in-Ok.ensures.ok n.filled in
    cut_walked_more c.args.cells c.cells.left c.next_cell.new.self c.args.layout.form c.in-Some.cell t.0 (g.W.Write.contents c.args.out.now) (g.W.Write.contents c.cells.out)
    (g.W.Write.contents c.print_cut.new.out) c.cells.invariant n.moves t.1 t.2

pub returns-in_default-clause-ok : goal.returns-in_default-clause-ok
returns-in_default-clause-ok g c =
    cut_walked_all c.args.cells c.cells.left c.next_cell.new.self c.args.layout.form (g.W.Write.contents c.args.out.now) (g.W.Write.contents c.cells.out) c.cells.invariant
    c.in_default.ensures.moves
