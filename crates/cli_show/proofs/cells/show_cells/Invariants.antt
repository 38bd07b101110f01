use Rattle.std.proofs.Common.{◌≤◌, length}
use Rattle.cli_show.proofs.cells.show_cells.Given as goal

abbrev pub invariant-loop-i : goal.invariant-loop-i
invariant-loop-i g l = record {
  used : length l.page.used ≤ g.S.PageSource.size l.source;
  gives : g.S.PageSource.gives_pages l.fn.source → g.S.PageSource.gives_pages l.source;
}
