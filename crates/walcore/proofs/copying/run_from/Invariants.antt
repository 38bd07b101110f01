use Rattle.walcore.proofs.Facts.{IsNewest, ℕ, ◌+◌, ◌-◌, ◌<◌, ◌≤◌}
use Rattle.walcore.proofs.copying.run_from.Given as goal

abbrev pub invariant-loop-count : goal.invariant-loop-count
invariant-loop-count l = record {
  some : 1 ≤ l.count;
  within : l.count ≤ l.most;
  each : (j : ℕ) → j < l.count → IsNewest l.index.pages (l.number + j) l.frames (l.frame + j);
}

abbrev pub decreases-loop-count : goal.decreases-loop-count
decreases-loop-count l = l.most - l.count
