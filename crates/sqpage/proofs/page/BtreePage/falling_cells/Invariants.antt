use Rattle.sqpage.proofs.btree.FallingCells.{Falling}
use Rattle.sqpage.proofs.page.BtreePage.falling_cells.Given as goal

abbrev pub invariant-cells : goal.invariant-cells
invariant-cells l = Falling l.self l.before l.i l.taken
