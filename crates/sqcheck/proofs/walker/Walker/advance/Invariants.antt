use Rattle.sqcheck.proofs.Words.{AreFound, Bool, Chart, List, Keeps, Spot, count_by, length, not, vec_len, ◌≡◌, ◌≤◌}
use Rattle.sqcheck.proofs.walker.Walker.advance.Given as goal

abbrev pub invariant-places : goal.invariant-places
invariant-places g l = record {
  long : length l.chart.roles.items ≡ length l.fn.chart.roles.items;
  found : g.V.Snapshot.right → (first : Chart) (bars : List Bool) (counted late : Bool) (rest : List Spot)
      → AreFound g.V.Snapshot.maps g.V.Snapshot.pages g.V.Snapshot.size first bars counted late rest l.tree l.fn.self.uses l.fn.self.walk l.fn.chart
      → AreFound g.V.Snapshot.maps g.V.Snapshot.pages g.V.Snapshot.size first bars counted late rest l.tree l.self.uses l.self.walk l.chart;
  fewer : count_by not l.self.uses.marks.items ≤ count_by not l.fn.self.uses.marks.items;
  same : Keeps g.V.Snapshot g.S.PageSource l.source;
}

abbrev pub decreases-places : goal.decreases-places
decreases-places g l = vec_len l.self.walk.stack
