use Rattle.std.proofs.Common.{◌≡◌}
use Rattle.sqpage.specs.Source.{KeepsPages}
use Rattle.sqsalvage.specs.SalvageCursor.{IsOver}
use Rattle.sqsalvage.specs.internal.Taking.{Goes}
use Rattle.sqsalvage.proofs.cursor.Salvage.next_piece.Given as goal

abbrev pub invariant-pieces : goal.invariant-pieces
invariant-pieces g l = record {
  kept : KeepsPages g.S.PageSource.pages g.S.PageSource.size g.S.PageSource.reads_right g.S.PageSource.gives_pages l.fn.source l.source;
  size : l.self.size ≡ l.fn.self.size;
  usable : l.self.usable ≡ l.fn.self.usable;
  at : l.self.at ≡ l.fn.self.at;
  table : l.self.table ≡ l.fn.self.table;
  goes : g.S.PageSource.reads_right l.fn.source → IsOver (g.S.PageSource.pages l.fn.source) l.fn.self → Goes (g.S.PageSource.pages l.fn.source) l.fn.self l.self.usable l.self.marks.items l.self.pending.items;
}
