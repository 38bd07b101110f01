use Rattle.std.proofs.Common.{◌≡◌, List, length}
use Rattle.sqpage.specs.Source.{KeepsPages}
use Rattle.sqval.specs.Record.{most_bytes}
use Rattle.sqrows.specs.Cursor.{IsOver}
use Rattle.sqindex.specs.Stored.{Stored}
use Rattle.sqindex.specs.internal.Held.{held_by}
use Rattle.sqindex.specs.internal.Marking.{AreSoundBy, IsMarkedBy, AreOfKind}
use Rattle.sqindex.proofs.marks.match_by.Given as goal

abbrev pub invariant-turns : goal.invariant-turns
invariant-turns g l = record {
  kept : KeepsPages g.S.PageSource.pages g.S.PageSource.size g.S.PageSource.reads_right g.S.PageSource.gives_pages l.fn.source l.source;
  sized : l.walk.cells.size ≡ g.S.PageSource.size l.fn.source;
  limited : l.walk.limit ≡ most_bytes;
  many : length l.marks.taken.items ≡ length (held_by l.entries);
  over : g.S.PageSource.reads_right l.fn.source → IsOver (g.S.PageSource.pages l.fn.source) l.walk.cells;
  seen : g.S.PageSource.reads_right l.fn.source → AreSoundBy l.key (held_by l.entries)
      → (rows : List Stored) × AreOfKind (g.S.PageSource.pages l.fn.source) l.table l.key.without_rowid l.walk.cells rows × IsMarkedBy l.key (held_by l.entries) rows l.marks;
}
