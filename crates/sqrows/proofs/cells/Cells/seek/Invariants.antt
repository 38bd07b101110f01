use Rattle.std.proofs.Common.{◌≡◌}
use Rattle.sqpage.specs.Source.{KeepsPages}
use Rattle.sqrows.specs.Cursor.{IsOver}
use Rattle.sqrows.specs.internal.Opening.{KeepsLeft, pending}
use Rattle.sqrows.proofs.cells.Cells.seek.Given as goal

abbrev pub invariant-steps : goal.invariant-steps
invariant-steps g l = record {
  kept : KeepsPages g.S.PageSource.pages g.S.PageSource.size g.S.PageSource.reads_right g.S.PageSource.gives_pages l.fn.source l.source;
  size : l.self.size ≡ l.fn.self.size;
  usable : l.self.usable ≡ l.fn.self.usable;
  left : g.S.PageSource.reads_right l.fn.source → IsOver (g.S.PageSource.pages l.fn.source) l.fn.self → KeepsLeft (g.S.PageSource.pages l.fn.source) l.fn.self l.self;
}

abbrev pub decreases-steps : goal.decreases-steps
decreases-steps g l = pending l.self
