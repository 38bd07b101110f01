use Rattle.std.proofs.Common.{◌≡◌, ◌+◌}
use Rattle.sqpage.specs.Source.{KeepsPages}
use Rattle.sqrows.specs.Cursor.{IsOver}
use Rattle.sqindex.specs.Indexes.{memory_of}
use Rattle.sqindex.specs.internal.Held.{held_by}
use Rattle.sqindex.specs.internal.Reading.{AreTaken}
use Rattle.sqindex.proofs.read.read_entries.Given as goal

abbrev pub invariant-turns : goal.invariant-turns
invariant-turns g l = record {
  kept : KeepsPages g.S.PageSource.pages g.S.PageSource.size g.S.PageSource.reads_right g.S.PageSource.gives_pages l.fn.source l.source;
  sized : l.walk.cells.size ≡ g.S.PageSource.size l.fn.source;
  limited : l.walk.limit ≡ l.longest;
  left : l.left + memory_of (held_by l.entries) ≡ l.limit;
  over : g.S.PageSource.reads_right l.fn.source → IsOver (g.S.PageSource.pages l.fn.source) l.walk.cells;
  taken : g.S.PageSource.reads_right l.fn.source → AreTaken (g.S.PageSource.pages l.fn.source) l.index l.walk.cells (held_by l.entries);
}
