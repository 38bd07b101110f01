use Rattle.std.proofs.Common.{ℕ, ◌<◌}
use Rattle.crashdisk.specs.Model.{state_of}
use Rattle.crashdisk.specs.State.{OneListed}
use Rattle.rig_shrink.proofs.bytes.are_listed.Given as goal

abbrev pub invariant-loop-k : goal.invariant-loop-k
invariant-loop-k l = (j : ℕ) → j < l.k → OneListed (state_of l.disk).sector (state_of l.disk).tears (state_of l.disk).db l.bytes j
