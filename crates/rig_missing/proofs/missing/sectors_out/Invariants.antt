use Rattle.std.proofs.Common.{ℕ, ◌/◌, ◌<◌, ◌≤◌, ◌↔◌}
use Rattle.std.specs.List.{All}
use Rattle.rig_missing.specs.Missing.{InRanges, Leaves}
use Rattle.rig_missing.proofs.missing.sectors_out.Given as goal

abbrev pub invariant-loop-k : goal.invariant-loop-k
invariant-loop-k l =
    (j : ℕ) → InRanges l.ranges.items j
    ↔ ((l.change.from / l.size.bytes ≤ j) × (j < l.k) × All (λ d. ¬ Leaves l.size.bytes l.change.subject l.bytes j d) l.later)
