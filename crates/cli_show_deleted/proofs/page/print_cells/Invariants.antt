use Rattle.cli_show_deleted.proofs.CellsTold.{Walked}
use Rattle.cli_show_deleted.proofs.page.print_cells.Given as goal

abbrev pub invariant-cells : goal.invariant-cells
invariant-cells g l = Walked l.initial.left l.left l.layout.form (g.W.Write.contents l.fn.out) (g.W.Write.contents l.out)
