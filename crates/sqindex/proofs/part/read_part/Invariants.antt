use Rattle.std.proofs.Common.{◌≡◌, List}
use Rattle.sqpage.specs.Source.{KeepsPages}
use Rattle.sqrows.specs.Cursor.{IsOver}
use Rattle.sqindex.specs.Stored.{Stored}
use Rattle.sqindex.specs.internal.Reading.{AreTaken}
use Rattle.sqindex.specs.internal.Spans.{AreOfSpan, GoesOn}
use Rattle.sqindex.proofs.part.read_part.Given as goal

abbrev pub invariant-turns : goal.invariant-turns
invariant-turns g l = record {
  kept : KeepsPages g.S.PageSource.pages g.S.PageSource.size g.S.PageSource.reads_right g.S.PageSource.gives_pages l.fn.source l.source;
  sized : l.walk.cells.size ≡ g.S.PageSource.size l.fn.source;
  limited : l.walk.limit ≡ l.fn.room.longest;
  over : g.S.PageSource.reads_right l.fn.source → IsOver (g.S.PageSource.pages l.fn.source) l.walk.cells;
  goes : GoesOn l.fn.part.span l.part.span;
  seen : g.S.PageSource.gives_pages l.fn.source
      → (seen : List Stored) × AreTaken (g.S.PageSource.pages l.fn.source) l.index l.walk.cells seen × AreOfSpan l.key l.part.span l.part.entries seen;
}
