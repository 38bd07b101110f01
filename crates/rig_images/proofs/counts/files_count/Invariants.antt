use Rattle.std.proofs.Common.{◌≡◌, ◌+◌, ◌≤◌, cond, drop, map}
use Rattle.crashdisk.specs.Model.{state_of}
use Rattle.rig_images.specs.Ways.{files_ways}
use Rattle.rig_images.proofs.counts.files_count.Given as goal

abbrev pub invariant-loop-disk : goal.invariant-loop-disk
invariant-loop-disk l =
    (l.count + files_ways (drop l.disk-index (map (λ d. state_of d) l.files)) ≡ cond l.none 1 0 + files_ways (map (λ d. state_of d) l.files)) × (l.count ≤ l.limit)
