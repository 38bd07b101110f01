use Rattle.sqcheck.proofs.Words.{ArePutDown, take, unused_faults, ◌≡◌}
use Rattle.sqcheck.proofs.chart.Chart.tell_unused.Given as goal

-- the roles stay, and the faults of the pages so far are put down
abbrev pub invariant-pages : goal.invariant-pages
invariant-pages l = record {
  same : l.self.roles.items ≡ l.fn.self.roles.items;
  down : ArePutDown l.fn.self.faults.items (unused_faults 1 (take l.i l.fn.self.roles.items)) l.self.faults.items;
}
