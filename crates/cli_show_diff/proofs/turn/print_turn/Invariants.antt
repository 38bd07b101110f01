use Rattle.std.proofs.Common.{take}
use Rattle.sqpage.specs.Source.{KeepsPages}
use Rattle.cli_show_diff.specs.Turns.{AreTurnsPrinted}
use Rattle.cli_show_diff.proofs.turn.print_turn.Given as goal

abbrev pub invariant-loop-object : goal.invariant-loop-object
invariant-loop-object g l = record {
  kept_old : KeepsPages g.S.PageSource.pages g.S.PageSource.size g.S.PageSource.reads_right g.S.PageSource.gives_pages l.fn.old l.old;
  kept_new : KeepsPages g.T.PageSource.pages g.T.PageSource.size g.T.PageSource.reads_right g.T.PageSource.gives_pages l.fn.new l.new;
  taken : g.S.PageSource.reads_right l.fn.old → g.T.PageSource.reads_right l.fn.new
      → AreTurnsPrinted (g.S.PageSource.pages l.fn.old) (g.T.PageSource.pages l.fn.new) l.turn l.form (take l.object-index l.turn.objects.now) (g.W.Write.contents l.fn.out) (g.W.Write.contents l.out);
}
