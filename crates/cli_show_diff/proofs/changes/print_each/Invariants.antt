use Rattle.std.proofs.Common.{take}
use Rattle.sqpage.specs.Source.{KeepsPages}
use Rattle.cli_show_diff.specs.Changes.{AreNamedPrinted, texts_of}
use Rattle.cli_show_diff.proofs.changes.print_each.Given as goal

abbrev pub invariant-loop-name : goal.invariant-loop-name
invariant-loop-name g l = record {
  kept_old : KeepsPages g.S.PageSource.pages g.S.PageSource.size g.S.PageSource.reads_right g.S.PageSource.gives_pages l.fn.old l.old;
  kept_new : KeepsPages g.T.PageSource.pages g.T.PageSource.size g.T.PageSource.reads_right g.T.PageSource.gives_pages l.fn.new l.new;
  taken : g.S.PageSource.reads_right l.fn.old → g.T.PageSource.reads_right l.fn.new
      → AreNamedPrinted (g.S.PageSource.pages l.fn.old) (g.T.PageSource.pages l.fn.new) l.schemas (texts_of (take l.name-index l.selected.names.now)) l.form (g.W.Write.contents l.fn.out) (g.W.Write.contents l.out);
}
