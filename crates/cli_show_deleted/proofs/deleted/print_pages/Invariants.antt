use Rattle.std.proofs.Common.{◌≡◌, ℕ, List}
use Rattle.std.specs.Io.KnownBytes.{Appends}
use Rattle.sqpage.specs.Freelist.{usable_size}
use Rattle.sqpage.specs.Source.{KeepsPages}
use Rattle.cli_show_deleted.specs.Printed.{AreTextsOf}
use Rattle.cli_show_deleted.proofs.deleted.print_pages.Given as goal

abbrev pub invariant-pages : goal.invariant-pages
invariant-pages g l = record {
  kept : KeepsPages g.S.PageSource.pages g.S.PageSource.size g.S.PageSource.reads_right g.S.PageSource.gives_pages l.fn.source l.source;
  told : g.S.PageSource.reads_right l.fn.source → l.layout.usable ≡ usable_size (g.S.PageSource.pages l.fn.source)
      → (t : List ℕ) × AreTextsOf l.layout.form (g.S.PageSource.pages l.fn.source) l.roles l.i t × Appends (g.W.Write.contents l.fn.out) (g.W.Write.contents l.out) t;
}
