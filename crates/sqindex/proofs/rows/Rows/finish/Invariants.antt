use Rattle.std.proofs.Common.{◌≡◌, ℕ, List}
use Rattle.sqpage.specs.Source.{KeepsPages}
use Rattle.sqindex.specs.Stored.{Stored}
use Rattle.sqindex.specs.internal.RowsGiven.{IsCursor}
use Rattle.sqindex.proofs.rows.Rows.finish.Given as goal

abbrev pub invariant-turns : goal.invariant-turns
invariant-turns g l = record {
  kept : KeepsPages g.S.PageSource.pages g.S.PageSource.size g.S.PageSource.reads_right g.S.PageSource.gives_pages l.fn.source l.source;
  sized : l.self.walk.cells.size ≡ g.S.PageSource.size l.fn.source;
  seen : g.S.PageSource.reads_right l.fn.source → (table : ℕ) (given : List Stored) → IsCursor (g.S.PageSource.pages l.fn.source) table l.fn.self given
      → (all : List Stored) × IsCursor (g.S.PageSource.pages l.fn.source) table l.self all;
}
