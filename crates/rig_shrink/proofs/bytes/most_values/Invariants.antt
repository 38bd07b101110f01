use Rattle.std.proofs.Common.{ℕ, ◌<◌, length}
use Rattle.crashdisk.specs.Model.{state_of}
use Rattle.rig_shrink.proofs.bytes.most_values.Given as goal

abbrev pub invariant-loop-k : goal.invariant-loop-k
invariant-loop-k l = (k : ℕ) → k < l.k → length ((state_of l.disk).db.earlier k) < l.most
