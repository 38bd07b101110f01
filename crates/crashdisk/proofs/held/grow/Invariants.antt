use Rattle.crashdisk.proofs.Words.{[], length, max, replicate, ◌++◌, ◌-◌, ◌∷◌, ◌≡◌, ◌≤◌}
use Rattle.crashdisk.proofs.held.grow.Given as goal

abbrev pub invariant-loop : goal.invariant-loop
invariant-loop l = record {
  at : length l.sectors.items ≡ l.counter;
  bounded : l.counter ≤ max (length l.fn.sectors.items) l.count;
  longer : length l.fn.sectors.items ≤ l.counter;
  grown : l.sectors.items ≡ l.fn.sectors.items ++ replicate (l.counter - length l.fn.sectors.items) (replicate l.sector 0 ∷ []);
}
