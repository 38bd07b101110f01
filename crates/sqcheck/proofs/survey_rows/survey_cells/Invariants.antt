use Rattle.sqcheck.proofs.Words.{AddsRoots, InRowBelow, IsPageFound, Keeps, TellsFound, length, ◌≡◌}
use Rattle.sqcheck.proofs.survey_rows.survey_cells.Given as goal

abbrev pub invariant-rows : goal.invariant-rows
invariant-rows g l = record {
  roles : l.chart.roles.items ≡ l.fn.chart.roles.items;
  found : g.V.Snapshot.right → IsPageFound g.V.Snapshot.pages l.page → AddsRoots g.V.Snapshot.pages (InRowBelow g.V.Snapshot.pages l.page.number l.i) l.fn.rows.roots.items l.rows.roots.items;
  tells : g.V.Snapshot.right → IsPageFound g.V.Snapshot.pages l.page → TellsFound g.V.Snapshot.maps g.V.Snapshot.pages g.V.Snapshot.size l.fn.chart.faults.items l.chart.faults.items;
  room : length l.rows.page.items ≡ g.V.Snapshot.size;
  same : Keeps g.V.Snapshot g.S.PageSource l.source;
}
