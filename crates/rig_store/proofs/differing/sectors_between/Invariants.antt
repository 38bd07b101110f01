use Rattle.std.proofs.Common.{ℕ, ◌<◌, ◌≤◌, ◌↔◌, ◌≢◌}
use Rattle.rig_store.specs.Differing.{InRanges, sector_bytes}
use Rattle.rig_store.proofs.differing.sectors_between.Given as goal

abbrev pub invariant-loop-k : goal.invariant-loop-k
invariant-loop-k l =
    (j : ℕ) → InRanges l.ranges.items j ↔ ((0 ≤ j) × (j < l.k) × (sector_bytes l.size j l.shown ≢ sector_bytes l.size j l.now))
