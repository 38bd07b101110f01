use Rattle.sqcheck.proofs.Words.{AddsRoots, Apart, Every, InRowsOf, IsLeafFound, Keeps, TellsFound, [], length, take, ◌≡◌}
use Rattle.sqcheck.proofs.survey_rows.sound_roots.Given as goal

abbrev pub invariant-pages : goal.invariant-pages
invariant-pages g l = record {
  roles : l.chart.roles.items ≡ l.fn.chart.roles.items;
  found : g.V.Snapshot.right → Every (IsLeafFound g.V.Snapshot.pages) l.leaves → Apart l.leaves → AddsRoots g.V.Snapshot.pages (InRowsOf g.V.Snapshot.pages (take l.number-index l.leaves)) [] l.rows.roots.items;
  tells : g.V.Snapshot.right → Every (IsLeafFound g.V.Snapshot.pages) l.leaves → TellsFound g.V.Snapshot.maps g.V.Snapshot.pages g.V.Snapshot.size l.fn.chart.faults.items l.chart.faults.items;
  usable : l.reader.usable ≡ l.fn.reader.usable;
  room : length l.rows.page.items ≡ g.V.Snapshot.size;
  same : Keeps g.V.Snapshot g.S.PageSource l.source;
}
