use Rattle.std.proofs.Common.{◌≡◌}
use Rattle.std.specs.Prelude.{map}
use Rattle.sqpage.specs.Source.{KeepsPages}
use Rattle.sqrows.specs.Cursor.{IsOver}
use Rattle.sqdeep.specs.Records.{encoding_of}
use Rattle.sqschema.specs.Items.{seen}
use Rattle.sqschema.specs.internal.Reading.{AreTaken}
use Rattle.sqschema.proofs.listing.read_items.Given as goal

abbrev pub invariant-turns : goal.invariant-turns
invariant-turns g l = record {
  kept : KeepsPages g.S.PageSource.pages g.S.PageSource.size g.S.PageSource.reads_right g.S.PageSource.gives_pages l.fn.source l.source;
  sized : l.rows.cells.size ≡ g.S.PageSource.size l.fn.source;
  over : g.S.PageSource.reads_right l.fn.source → IsOver (g.S.PageSource.pages l.fn.source) l.rows.cells;
  named : g.S.PageSource.reads_right l.fn.source → l.encoding ≡ encoding_of (g.S.PageSource.pages l.fn.source);
  taken : g.S.PageSource.reads_right l.fn.source → AreTaken (g.S.PageSource.pages l.fn.source) l.encoding l.rows (map seen l.items.items);
}
