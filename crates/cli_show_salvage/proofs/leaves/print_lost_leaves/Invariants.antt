use Rattle.std.proofs.Common.{◌≡◌}
use Rattle.sqpage.specs.Source.{KeepsPages}
use Rattle.sqsalvage.specs.SalvageCursor.{IsOver}
use Rattle.cli_show_salvage.specs.internal.Walks.{LostWalked}
use Rattle.cli_show_salvage.proofs.leaves.print_lost_leaves.Given as goal

abbrev pub invariant-leaves : goal.invariant-leaves
invariant-leaves g l = record {
  kept : KeepsPages g.S.PageSource.pages g.S.PageSource.size g.S.PageSource.reads_right g.S.PageSource.gives_pages l.fn.source l.source;
  sized : l.salvage.size ≡ l.fn.salvage.size;
  walked : g.S.PageSource.reads_right l.fn.source → IsOver (g.S.PageSource.pages l.fn.source) l.fn.salvage → LostWalked (g.S.PageSource.pages l.fn.source) l.target l.fn.salvage l.salvage l.fn.book l.book (g.W.Write.contents l.fn.out) (g.W.Write.contents l.out);
}
