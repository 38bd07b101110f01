use Rattle.sqcheck.proofs.Words.{AreFound, Bool, Chart, HasFound, IsItemOf, List, Keeps, Spot, count_by, length, not, ◌∷◌, ◌≡◌}
use Rattle.sqcheck.proofs.walker.Walker.survey_from.Given as goal

abbrev pub invariant-pages : goal.invariant-pages
invariant-pages g l = record {
  long : length l.chart.roles.items ≡ length l.fn.chart.roles.items;
  found : g.V.Snapshot.right → (first : Chart) (bars : List Bool) (counted late : Bool) (rest : List Spot) (s : Spot) → IsItemOf l.tree l.fn.item s
      → HasFound g.V.Snapshot.maps g.V.Snapshot.pages g.V.Snapshot.size first bars counted late (s ∷ rest) l.fn.self.uses l.fn.self.walk l.fn.chart
      → AreFound g.V.Snapshot.maps g.V.Snapshot.pages g.V.Snapshot.size first bars counted late rest l.tree l.self.uses l.self.walk l.chart;
  same : Keeps g.V.Snapshot g.S.PageSource l.source;
}

abbrev pub decreases-pages : goal.decreases-pages
decreases-pages g l = count_by not l.self.uses.marks.items
