use Rattle.sqdeleted.proofs.WholePlaces.{Marking}
use Rattle.sqdeleted.proofs.whole.WholeCells.of_cells.Given as goal

abbrev pub invariant-cells : goal.invariant-cells
invariant-cells l = Marking l.initial.left l.left l.begin.items l.held.items
