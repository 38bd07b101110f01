use Rattle.std.proofs.Common.{◌≡◌, ◌≤◌, length}
use Rattle.sqpage.specs.Source.{KeepsPages}
use Rattle.cli_show.proofs.names.names_in.Given as goal

abbrev pub invariant-loop-i : goal.invariant-loop-i
invariant-loop-i g l = record {
  usable : l.usable ≤ g.S.PageSource.size l.source;
  count : l.i-end ≡ length (g.S.PageSource.pages l.fn.source);
  same : KeepsPages g.S.PageSource.pages g.S.PageSource.size g.S.PageSource.reads_right g.S.PageSource.gives_pages l.fn.source l.source;
}
