use Rattle.cli_show_deleted.proofs.CutsTold.{CutWalked}
use Rattle.cli_show_deleted.proofs.cut_page.print_cuts.Given as goal

abbrev pub invariant-cells : goal.invariant-cells
invariant-cells g l = CutWalked l.initial.left l.left l.layout.form (g.W.Write.contents l.fn.out) (g.W.Write.contents l.out)
