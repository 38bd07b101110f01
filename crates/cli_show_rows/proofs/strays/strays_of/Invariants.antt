use Rattle.std.proofs.Common.{◌≡◌}
use Rattle.sqpage.specs.Source.{KeepsPages}
use Rattle.sqrows.specs.Cursor.{IsOver}
use Rattle.sqval.specs.Record.{most_bytes}
use Rattle.cli_show_rows.specs.Strays.{bytes_of}
use Rattle.cli_show_rows.specs.internal.Straying.{AreStraysTaken}
use Rattle.cli_show_rows.proofs.strays.strays_of.Given as goal

abbrev pub invariant-turns : goal.invariant-turns
invariant-turns g l = record {
  kept : KeepsPages g.S.PageSource.pages g.S.PageSource.size g.S.PageSource.reads_right g.S.PageSource.gives_pages l.fn.source l.source;
  sized : l.rows.cells.size ≡ g.S.PageSource.size l.fn.source;
  limited : l.rows.limit ≡ most_bytes;
  over : g.S.PageSource.reads_right l.fn.source → IsOver (g.S.PageSource.pages l.fn.source) l.rows.cells;
  taken : g.S.PageSource.reads_right l.fn.source → AreStraysTaken (g.S.PageSource.pages l.fn.source) l.encoding l.rows (bytes_of l.strays.items);
}
