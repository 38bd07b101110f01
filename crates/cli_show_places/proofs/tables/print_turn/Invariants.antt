use Rattle.std.proofs.Common.{take}
use Rattle.sqpage.specs.Source.{KeepsPages}
use Rattle.cli_show_places.specs.Places.{AreTurnsPlaced}
use Rattle.cli_show_places.proofs.tables.print_turn.Given as goal

abbrev pub invariant-loop-object : goal.invariant-loop-object
invariant-loop-object g l = record {
  kept : KeepsPages g.S.PageSource.pages g.S.PageSource.size g.S.PageSource.reads_right g.S.PageSource.gives_pages l.fn.source l.source;
  taken : g.S.PageSource.reads_right l.fn.source → g.S.Framed.tells_right → AreTurnsPlaced (g.S.PageSource.pages l.fn.source) g.S.Framed.frames l.form l.own (take l.object-index l.objects) (g.W.Write.contents l.fn.out) (g.W.Write.contents l.out);
}
