use Rattle.sqpage.specs.Source.{KeepsPages}
use Rattle.sqsalvage.specs.TreePages.{page_of}
use Rattle.cli_show_salvage.specs.Leaves.{AreCellsTold}
use Rattle.cli_show_salvage.proofs.leaf.print_leaf.Given as goal

abbrev pub invariant-cells : goal.invariant-cells
invariant-cells g l = record {
  kept : KeepsPages g.S.PageSource.pages g.S.PageSource.size g.S.PageSource.reads_right g.S.PageSource.gives_pages l.fn.source l.source;
  told : g.S.PageSource.reads_right l.fn.source → AreCellsTold (g.S.PageSource.pages l.fn.source) l.target (page_of l.page) l.fn.book (g.W.Write.contents l.fn.out) l.i l.book (g.W.Write.contents l.out);
}
