use Rattle.std.proofs.Common.{◌≡◌}
use Rattle.sqpage.specs.Source.{KeepsPages}
use Rattle.sqrows.specs.Cursor.{IsOver}
use Rattle.cli_show_places.specs.internal.Walks.{AreWalked}
use Rattle.cli_show_places.proofs.cells.print_cells.Given as goal

abbrev pub invariant-turns : goal.invariant-turns
invariant-turns g l = record {
  kept : KeepsPages g.S.PageSource.pages g.S.PageSource.size g.S.PageSource.reads_right g.S.PageSource.gives_pages l.fn.source l.source;
  sized : l.cells.size ≡ g.S.PageSource.size l.fn.source;
  over : g.S.PageSource.reads_right l.fn.source → IsOver (g.S.PageSource.pages l.fn.source) l.cells;
  walked : g.S.PageSource.reads_right l.fn.source → g.S.Framed.tells_right → AreWalked (g.S.PageSource.pages l.fn.source) g.S.Framed.frames l.style l.root l.cells (g.W.Write.contents l.fn.out) (g.W.Write.contents l.out);
}
