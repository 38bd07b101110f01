use Rattle.std.proofs.Common.{◌≡◌}
use Rattle.crashdisk.specs.Count.{value_count, ways}
use Rattle.crashdisk.specs.Model.{state_of}
use Rattle.rig_images.proofs.counts.file_count.Given as goal

abbrev pub invariant-loop-k : goal.invariant-loop-k
invariant-loop-k l = l.count ≡ ways (value_count (state_of l.disk).db) l.k
