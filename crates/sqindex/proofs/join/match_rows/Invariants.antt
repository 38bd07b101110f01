use Rattle.std.proofs.Common.{◌≡◌, ℕ, List, Some, true, slice_get}
use Rattle.sqpage.specs.Source.{KeepsPages}
use Rattle.sqindex.specs.Stored.{Stored}
use Rattle.sqindex.specs.Keys.{rowid_of}
use Rattle.sqindex.specs.internal.Judging.{AreByRowid}
use Rattle.sqindex.specs.internal.Joining.{IsJoined}
use Rattle.sqindex.specs.internal.RowsGiven.{IsCursor, IsReadTo}
use Rattle.sqindex.specs.internal.Spans.{up_to, rows_in, IsOpen}
use Rattle.sqindex.proofs.join.match_rows.Given as goal

abbrev pub invariant-turns : goal.invariant-turns
invariant-turns g l = record {
  kept : KeepsPages g.S.PageSource.pages g.S.PageSource.size g.S.PageSource.reads_right g.S.PageSource.gives_pages l.fn.source l.source;
  sized : l.rows.walk.cells.size ≡ g.S.PageSource.size l.fn.source;
  seen : g.S.PageSource.reads_right l.fn.source → (table : ℕ) → AreByRowid l.key l.part.entries → IsOpen l.part.span → IsReadTo (g.S.PageSource.pages l.fn.source) table l.part.span.above l.fn.rows
      → (given : List Stored) × IsCursor (g.S.PageSource.pages l.fn.source) table l.rows given × IsJoined l.key l.part.entries (rows_in l.part.span given) l.join
      × ((i : ℕ) (row : Stored) → slice_get given i ≡ Some row → up_to l.part.span.last (rowid_of row) ≡ true);
}
