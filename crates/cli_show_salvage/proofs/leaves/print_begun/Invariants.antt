use Rattle.std.proofs.Common.{◌≡◌}
use Rattle.sqpage.specs.Source.{KeepsPages}
use Rattle.sqsalvage.specs.SalvageCursor.{IsOver}
use Rattle.cli_show_salvage.specs.internal.Walks.{Walked}
use Rattle.cli_show_salvage.proofs.leaves.print_begun.Given as goal

abbrev pub invariant-pieces : goal.invariant-pieces
invariant-pieces g l = record {
  kept : KeepsPages g.S.PageSource.pages g.S.PageSource.size g.S.PageSource.reads_right g.S.PageSource.gives_pages l.fn.source l.source;
  sized : l.salvage.size ≡ l.fn.salvage.size;
  at : l.salvage.at ≡ l.fn.salvage.at;
  table : l.salvage.table ≡ l.fn.salvage.table;
  walked : g.S.PageSource.reads_right l.fn.source → IsOver (g.S.PageSource.pages l.fn.source) l.fn.salvage → Walked (g.S.PageSource.pages l.fn.source) l.target l.fn.salvage l.salvage l.fn.book l.book (g.W.Write.contents l.fn.out) (g.W.Write.contents l.out);
}
