use Rattle.std.proofs.Common.{◌≡◌}
use Rattle.sqpage.specs.Source.{KeepsPages}
use Rattle.sqval.specs.Record.{most_bytes}
use Rattle.sqrows.specs.Cursor.{IsOver}
use Rattle.cli_show_diff.specs.internal.Walks.{AreRowsWritten}
use Rattle.cli_show_diff.proofs.one.print_one.Given as goal

abbrev pub invariant-turns : goal.invariant-turns
invariant-turns g l = record {
  kept : KeepsPages g.S.PageSource.pages g.S.PageSource.size g.S.PageSource.reads_right g.S.PageSource.gives_pages l.fn.source l.source;
  sized : l.rows.cells.size ≡ g.S.PageSource.size l.fn.source;
  limited : l.rows.limit ≡ most_bytes;
  same : l.told ≡ record l.style { before = l.told.before };
  over : g.S.PageSource.reads_right l.fn.source → IsOver (g.S.PageSource.pages l.fn.source) l.rows.cells;
  written : g.S.PageSource.reads_right l.fn.source → AreRowsWritten (g.S.PageSource.pages l.fn.source) l.root l.comes l.style l.told.before.now l.rows (g.W.Write.contents l.fn.out) (g.W.Write.contents l.out);
}
