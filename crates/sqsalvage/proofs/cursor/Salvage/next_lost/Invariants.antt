use Rattle.std.proofs.Common.{◌≡◌, ◌-◌, ℕ, List}
use Rattle.sqpage.specs.Source.{KeepsPages}
use Rattle.sqsalvage.specs.SalvageCursor.{IsOver, LostLeft}
use Rattle.sqsalvage.proofs.cursor.Salvage.next_lost.Given as goal

abbrev pub invariant-pages : goal.invariant-pages
invariant-pages g l = record {
  kept : KeepsPages g.S.PageSource.pages g.S.PageSource.size g.S.PageSource.reads_right g.S.PageSource.gives_pages l.fn.source l.source;
  size : l.self.size ≡ l.fn.self.size;
  usable : l.self.usable ≡ l.fn.self.usable;
  marks : l.self.marks ≡ l.fn.self.marks;
  pending : l.self.pending ≡ l.fn.self.pending;
  left : g.S.PageSource.reads_right l.fn.source → IsOver (g.S.PageSource.pages l.fn.source) l.fn.self → (leaves : List ℕ) → LostLeft (g.S.PageSource.pages l.fn.source) l.self leaves → LostLeft (g.S.PageSource.pages l.fn.source) l.fn.self leaves;
}

abbrev pub decreases-pages : goal.decreases-pages
decreases-pages g l = l.count - l.self.at
