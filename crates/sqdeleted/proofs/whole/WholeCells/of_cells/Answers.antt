use Rattle.std.proofs.Common.{ap, arith, length, ◌≡◌}
use Rattle.sqdeleted.proofs.WholePlaces.{cell_within, marking_none, marking_more, marking_all}
use Rattle.sqdeleted.proofs.whole.WholeCells.of_cells.Goals as goal

pub cells-init : goal.cells-init
cells-init c = marking_none c.args.cells c.in_ok-begin.begin.items c.in_ok-held.held.items c.in_ok-begin.ensures c.in_ok-held.ensures

pub cells-preserved : goal.cells-preserved
cells-preserved c =
    marking_more c.args.cells c.cells.left c.next_cell.new.self c.cells.begin.items c.cells.held.items c.mark.new.held.items c.in-Some.cell c.cells.invariant c.in-Some.ensures.moves c.mark.ensures.marks
    c.in-Some.ensures.same.0 c.mark.ensures.sized

pub returns-in_default : goal.returns-in_default
returns-in_default c = marking_all c.args.cells c.cells.left c.next_cell.new.self _ c.cells.invariant c.in_default.ensures.moves
