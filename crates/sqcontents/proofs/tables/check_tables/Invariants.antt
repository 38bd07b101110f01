use Rattle.std.specs.Prelude.{map}
use Rattle.sqpage.specs.Source.{KeepsPages}
use Rattle.sqschema.specs.Items.{seen}
use Rattle.sqcontents.specs.internal.Judging.{AreNumbersOf, AreTablesBelow}
use Rattle.sqcontents.proofs.tables.check_tables.Given as goal

abbrev pub invariant-items : goal.invariant-items
invariant-items g l = record {
  kept : KeepsPages g.S.PageSource.pages g.S.PageSource.size g.S.PageSource.reads_right g.S.PageSource.gives_pages l.fn.source l.source;
  numbers : g.S.PageSource.reads_right l.fn.source → AreNumbersOf (g.S.PageSource.pages l.fn.source) l.numbers;
  judged : g.S.PageSource.reads_right l.fn.source → AreTablesBelow (g.S.PageSource.pages l.fn.source) (map seen l.items) l.row l.asides.items;
}
