use Rattle.crashdisk.proofs.Words.{[], get_or, length, picked, true, turned, ℕ, ◌<◌, ◌≡◌, ◌≤◌}
use Rattle.crashdisk.proofs.held.turn_each.Given as goal

abbrev pub invariant-loop-k : goal.invariant-loop-k
invariant-loop-k l = record {
  count : length l.sectors.items ≡ length l.fn.sectors.items;
  done : (j : ℕ) → j < l.k → get_or l.sectors.items j [] ≡ turned (picked l.pick true j (length (get_or l.fn.sectors.items j []))) (get_or l.fn.sectors.items j []);
  left : (j : ℕ) → l.k ≤ j → get_or l.sectors.items j [] ≡ get_or l.fn.sectors.items j [];
}
