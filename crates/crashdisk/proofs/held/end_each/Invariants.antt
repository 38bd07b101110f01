use Rattle.crashdisk.proofs.Words.{IsEndedTo, [], get_or, length, ℕ, ◌*◌, ◌-◌, ◌<◌, ◌≡◌, ◌≤◌}
use Rattle.crashdisk.proofs.held.end_each.Given as goal

abbrev pub invariant-loop-k : goal.invariant-loop-k
invariant-loop-k l = record {
  count : length l.sectors.items ≡ length l.fn.sectors.items;
  done : (j : ℕ) → j < l.k → IsEndedTo (l.end - j * l.sector) (get_or l.fn.sectors.items j []) (get_or l.sectors.items j []);
  left : (j : ℕ) → l.k ≤ j → get_or l.sectors.items j [] ≡ get_or l.fn.sectors.items j [];
}
