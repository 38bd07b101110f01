use Rattle.std.proofs.Common.{◌≡◌}
use Rattle.sqpage.specs.Source.{KeepsPages}
use Rattle.sqkeydiff.specs.KeyCursor.{AreStanding}
use Rattle.sqkeydiff.specs.declared.turn.Turn.TheVariants.{Same}
use Rattle.sqkeydiff.specs.internal.Turns.{Turns}
use Rattle.sqkeydiff.proofs.diff.KeyDiff.advance.Given as goal

abbrev pub invariant-turns : goal.invariant-turns
invariant-turns g l = record {
  kept_old : KeepsPages g.S.PageSource.pages g.S.PageSource.size g.S.PageSource.reads_right g.S.PageSource.gives_pages l.fn.old_source l.old_source;
  kept_new : KeepsPages g.T.PageSource.pages g.T.PageSource.size g.T.PageSource.reads_right g.T.PageSource.gives_pages l.fn.new_source l.new_source;
  old_size : l.self.old_side.rows.cells.size ≡ l.fn.self.old_side.rows.cells.size;
  new_size : l.self.new_side.rows.cells.size ≡ l.fn.self.new_side.rows.cells.size;
  old_limit : l.self.old_side.rows.limit ≡ l.fn.self.old_side.rows.limit;
  new_limit : l.self.new_side.rows.limit ≡ l.fn.self.new_side.rows.limit;
  same_key : l.self.key ≡ l.fn.self.key;
  walked : g.S.PageSource.reads_right l.fn.old_source → g.T.PageSource.reads_right l.fn.new_source → AreStanding (g.S.PageSource.pages l.fn.old_source) (g.T.PageSource.pages l.fn.new_source) l.fn.self → Turns (g.S.PageSource.pages l.fn.old_source) (g.T.PageSource.pages l.fn.new_source) l.fn.self l.self Same;
}
