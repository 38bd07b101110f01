use Rattle.cli_show_deleted.proofs.CellsCollected.{Collecting}
use Rattle.cli_show_deleted.proofs.candidate.collected.Given as goal

abbrev pub invariant-cells : goal.invariant-cells
invariant-cells l = Collecting l.initial.left l.left l.all.items
