use Rattle.std.proofs.Common.{◌≡◌, ℕ, List, [], length}
use Rattle.sqpage.specs.Source.{KeepsPages}
use Rattle.sqrows.specs.Cursor.{IsOver}
use Rattle.sqindex.specs.Stored.{Stored}
use Rattle.sqindex.specs.internal.KeyedScanning.{IsBefore, ArePlain}
use Rattle.sqindex.specs.internal.RowsGiven.{IsCursor}
use Rattle.sqindex.specs.internal.Stepping.{IsStartOf}
use Rattle.sqindex.specs.internal.Streaming.{IsStream, before_of}
use Rattle.sqindex.proofs.stream.order_index.Given as goal

abbrev pub invariant-turns : goal.invariant-turns
invariant-turns g l = record {
  kept : KeepsPages g.S.PageSource.pages g.S.PageSource.size g.S.PageSource.reads_right g.S.PageSource.gives_pages l.fn.source l.source;
  sized : l.walk.cells.size ≡ g.S.PageSource.size l.fn.source;
  limited : l.walk.limit ≡ l.limit;
  roomy : l.start.room.longest ≡ l.limit;
  beside : l.start.rows.walk.cells.size ≡ g.S.PageSource.size l.fn.source;
  over : g.S.PageSource.reads_right l.fn.source → IsOver (g.S.PageSource.pages l.fn.source) l.walk.cells;
  seen : g.S.PageSource.gives_pages l.fn.source
      → (xs : List Stored) × ArePlain (g.S.PageSource.pages l.fn.source) l.index l.walk.cells xs × IsStream l.key xs l.fault × IsBefore xs (before_of l.last) × (length xs ≡ l.i)
      × ((table : ℕ) → IsCursor (g.S.PageSource.pages l.fn.source) table l.fn.rows [] → IsStartOf (g.S.PageSource.pages l.fn.source) table l.key l.start.stage l.start.part l.start.rows xs);
}
