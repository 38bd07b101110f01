use Rattle.std.proofs.Common.{◌≡◌, [], take}
use Rattle.sqpage.specs.Source.{KeepsPages}
use Rattle.sqsalvage.specs.SalvageCursor.{IsOver}
use Rattle.cli_show_salvage.specs.Scripts.{AreTurnsSalvaged}
use Rattle.cli_show_salvage.proofs.tables.print_turn.Given as goal

abbrev pub invariant-loop-object : goal.invariant-loop-object
invariant-loop-object g l = record {
  kept : KeepsPages g.S.PageSource.pages g.S.PageSource.size g.S.PageSource.reads_right g.S.PageSource.gives_pages l.fn.source l.source;
  sized : l.salvage.size ≡ l.fn.salvage.size;
  at : l.salvage.at ≡ l.fn.salvage.at;
  ended : l.salvage.pending.items ≡ [];
  over : g.S.PageSource.reads_right l.fn.source → IsOver (g.S.PageSource.pages l.fn.source) l.fn.salvage → IsOver (g.S.PageSource.pages l.fn.source) l.salvage;
  told : g.S.PageSource.reads_right l.fn.source → IsOver (g.S.PageSource.pages l.fn.source) l.fn.salvage → AreTurnsSalvaged (g.S.PageSource.pages l.fn.source) l.turn.encoding l.turn.lost.now l.turn.places l.turn.own l.fn.salvage.marks.items l.fn.book (g.W.Write.contents l.fn.out) (take l.object-index l.objects) l.salvage.marks.items l.book (g.W.Write.contents l.out);
}
