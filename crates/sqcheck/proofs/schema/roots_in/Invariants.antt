use Rattle.sqcheck.proofs.Words.{AllSchemaRows, Apart, Every, InRowsOf, IsRowsPage, KeepsFound, Keeps, [], take, ◌≡◌}
use Rattle.sqcheck.proofs.schema.roots_in.Given as goal

abbrev pub invariant-pages : goal.invariant-pages
invariant-pages g l =
    let d = g.V.Snapshot.pages in
    record {
      finds : g.V.Snapshot.right → Every (IsRowsPage d) l.rows → Apart l.rows → KeepsFound d (InRowsOf d (take l.number-index l.rows)) [] l.roots.items × Every (AllSchemaRows d) (take l.number-index l.rows);
      usable : l.reader.usable ≡ l.fn.reader.usable;
      same : Keeps g.V.Snapshot g.S.PageSource l.source;
    }
