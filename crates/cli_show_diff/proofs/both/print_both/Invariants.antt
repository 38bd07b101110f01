use Rattle.std.proofs.Common.{◌≡◌}
use Rattle.sqpage.specs.Source.{KeepsPages}
use Rattle.sqval.specs.Record.{most_bytes}
use Rattle.cli_show_diff.specs.internal.TableDiffs.{AreStanding, new_rows, old_rows}
use Rattle.cli_show_diff.specs.internal.Walks.{AreWritten}
use Rattle.cli_show_diff.proofs.both.print_both.Given as goal

abbrev pub invariant-turns : goal.invariant-turns
invariant-turns g l = record {
  kept_old : KeepsPages g.S.PageSource.pages g.S.PageSource.size g.S.PageSource.reads_right g.S.PageSource.gives_pages l.fn.old l.old;
  kept_new : KeepsPages g.T.PageSource.pages g.T.PageSource.size g.T.PageSource.reads_right g.T.PageSource.gives_pages l.fn.new l.new;
  old_size : (old_rows l.diff).cells.size ≡ g.S.PageSource.size l.fn.old;
  new_size : (new_rows l.diff).cells.size ≡ g.T.PageSource.size l.fn.new;
  old_limit : (old_rows l.diff).limit ≡ most_bytes;
  new_limit : (new_rows l.diff).limit ≡ most_bytes;
  same : l.told ≡ record l.style { before = l.told.before };
  standing : g.S.PageSource.reads_right l.fn.old → g.T.PageSource.reads_right l.fn.new → AreStanding (g.S.PageSource.pages l.fn.old) (g.T.PageSource.pages l.fn.new) l.diff;
  written : g.S.PageSource.reads_right l.fn.old → g.T.PageSource.reads_right l.fn.new
      → AreWritten (g.S.PageSource.pages l.fn.old) l.roots.0 (g.T.PageSource.pages l.fn.new) l.roots.1 l.style l.told.before.now l.diff (g.W.Write.contents l.fn.out) (g.W.Write.contents l.out);
}
