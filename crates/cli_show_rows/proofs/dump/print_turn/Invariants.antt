use Rattle.std.proofs.Common.{take}
use Rattle.sqpage.specs.Source.{KeepsPages}
use Rattle.cli_show_rows.specs.Dumps.{AreTurnsTaken}
use Rattle.cli_show_rows.proofs.dump.print_turn.Given as goal

abbrev pub invariant-loop-object : goal.invariant-loop-object
invariant-loop-object g l = record {
  kept : KeepsPages g.S.PageSource.pages g.S.PageSource.size g.S.PageSource.reads_right g.S.PageSource.gives_pages l.fn.source l.source;
  taken : g.S.PageSource.reads_right l.fn.source → AreTurnsTaken (g.S.PageSource.pages l.fn.source) l.form l.turn (take l.object-index l.objects) (g.W.Write.contents l.fn.out) (g.W.Write.contents l.out);
}
