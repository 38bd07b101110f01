use Rattle.sqcheck.proofs.Words.{Bool, Chart, HasFound, List, RootsMatch, Keeps, Spot, drop, length, true, ◌≡◌}
use Rattle.sqcheck.proofs.walker.Walker.survey_roots.Given as goal

abbrev pub invariant-roots : goal.invariant-roots
invariant-roots g l = record {
  long : length l.chart.roles.items ≡ length l.fn.chart.roles.items;
  found : g.V.Snapshot.right → (first : Chart) (bars : List Bool) (spots : List Spot) → RootsMatch g.V.Snapshot.pages l.roots spots
      → HasFound g.V.Snapshot.maps g.V.Snapshot.pages g.V.Snapshot.size first bars true true spots l.fn.self.uses l.fn.self.walk l.fn.chart
      → (left : List Spot) × RootsMatch g.V.Snapshot.pages (drop l.root-index l.roots) left × HasFound g.V.Snapshot.maps g.V.Snapshot.pages g.V.Snapshot.size first bars true true left l.self.uses l.self.walk l.chart;
  same : Keeps g.V.Snapshot g.S.PageSource l.source;
}
