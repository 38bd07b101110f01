use Rattle.std.proofs.Common.{◌≡◌, List, Some, None, cond}
use Rattle.sqpage.specs.Source.{KeepsPages}
use Rattle.sqval.specs.Record.{most_bytes}
use Rattle.sqrows.specs.Cursor.{IsOver}
use Rattle.sqindex.specs.Stored.{Stored}
use Rattle.sqindex.specs.internal.KeyedScanning.{IsKeyedScan, IsBefore, ArePlain}
use Rattle.sqindex.proofs.keyed_rows.scan_keyed.Given as goal

abbrev pub invariant-turns : goal.invariant-turns
invariant-turns g l = record {
  kept : KeepsPages g.S.PageSource.pages g.S.PageSource.size g.S.PageSource.reads_right g.S.PageSource.gives_pages l.fn.source l.source;
  sized : l.walk.cells.size ≡ g.S.PageSource.size l.fn.source;
  limited : l.walk.limit ≡ most_bytes;
  over : g.S.PageSource.reads_right l.fn.source → IsOver (g.S.PageSource.pages l.fn.source) l.walk.cells;
  seen : g.S.PageSource.gives_pages l.fn.source
      → (rows : List Stored) × ArePlain (g.S.PageSource.pages l.fn.source) l.table l.walk.cells rows × IsKeyedScan l.key rows l.scan × IsBefore rows (cond l.some (Some l.before.items) None);
}
