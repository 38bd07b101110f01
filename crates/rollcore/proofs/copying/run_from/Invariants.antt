use Rattle.rollcore.proofs.Facts.{HasEntry, HasRead, List, Some, ℕ, ◌*◌, ◌+◌, ◌-◌, ◌<◌, ◌≤◌}
use Rattle.rollcore.proofs.copying.run_from.Given as goal

abbrev pub invariant-loop-run : goal.invariant-loop-run
invariant-loop-run l = record {
  some : 1 ≤ l.run;
  within : l.run ≤ l.most;
  each : (w : List ℕ) → HasRead w l.scan → HasEntry w l.number (Some l.first) → (j : ℕ) → j < l.run → HasEntry w (l.number + j) (Some (record { page = l.first.page + j; at = l.first.at + j * (l.size + 8) }));
}

abbrev pub decreases-loop-run : goal.decreases-loop-run
decreases-loop-run l = l.most - l.run
