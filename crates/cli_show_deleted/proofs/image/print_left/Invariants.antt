use Rattle.cli_show_deleted.proofs.ImagesTold.{Imaged}
use Rattle.cli_show_deleted.proofs.image.print_left.Given as goal

abbrev pub invariant-cells : goal.invariant-cells
invariant-cells g l = Imaged l.initial.left l.left l.layout.form l.image.frame l.image.used.now l.shown (g.W.Write.contents l.fn.out) (g.W.Write.contents l.out)
