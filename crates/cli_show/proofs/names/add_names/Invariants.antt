use Rattle.std.proofs.Common.{◌≤◌, length}
use Rattle.sqpage.specs.Source.{KeepsPages}
use Rattle.cli_show.proofs.names.add_names.Given as goal

abbrev pub invariant-loop-i : goal.invariant-loop-i
invariant-loop-i g l = record {
  used : length l.page.used ≤ g.S.PageSource.size l.source;
  same : KeepsPages g.S.PageSource.pages g.S.PageSource.size g.S.PageSource.reads_right g.S.PageSource.gives_pages l.fn.source l.source;
}
