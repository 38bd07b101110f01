use Rattle.sqcheck.proofs.Words.{AreSchemaRows, InRowBelow, KeepsFound, Keeps, TableLeaf, page_as, ◌≡◌}
use Rattle.sqcheck.proofs.schema.take_rows.Given as goal

abbrev pub invariant-rows : goal.invariant-rows
invariant-rows g l =
    let d = g.V.Snapshot.pages in
    record {
      finds : g.V.Snapshot.right → l.page ≡ page_as d TableLeaf l.page.number → KeepsFound d (InRowBelow d l.page.number l.i) l.fn.roots.items l.roots.items × AreSchemaRows d l.page.number l.i;
      same : Keeps g.V.Snapshot g.S.PageSource l.source;
    }
