use Rattle.std.proofs.Common.{ℕ, List}
use Rattle.std.specs.Io.KnownBytes.{Appends}
use Rattle.sqpage.specs.Source.{KeepsPages}
use Rattle.cli_show_deleted.specs.Changes.{AreTextsBetween}
use Rattle.cli_show_deleted.specs.internal.Surveys.{IsUsable, known}
use Rattle.cli_show_deleted.proofs.changed.print_pages_between.Given as goal

abbrev pub invariant-pages : goal.invariant-pages
invariant-pages g l = record {
  kept : KeepsPages g.S.PageSource.pages g.S.PageSource.size g.S.PageSource.reads_right g.S.PageSource.gives_pages l.fn.old l.old;
  too : KeepsPages g.T.PageSource.pages g.T.PageSource.size g.T.PageSource.reads_right g.T.PageSource.gives_pages l.fn.new l.new;
  told : g.S.PageSource.reads_right l.fn.old → g.T.PageSource.reads_right l.fn.new
      → IsUsable (g.S.PageSource.pages l.fn.old) l.pages.0.now.layout.usable → IsUsable (g.T.PageSource.pages l.fn.new) l.pages.1.now.layout.usable
      → (t : List ℕ) × AreTextsBetween (known (g.S.PageSource.pages l.fn.old) l.pages.0.now) (known (g.T.PageSource.pages l.fn.new) l.pages.1.now) l.i t
      × Appends (g.W.Write.contents l.fn.out) (g.W.Write.contents l.out) t;
}
