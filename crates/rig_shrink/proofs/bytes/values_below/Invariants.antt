use Rattle.std.proofs.Common.{map}
use Rattle.crashdisk.specs.Model.{state_of}
use Rattle.rig_shrink.specs.internal.Values.{AreValued}
use Rattle.rig_shrink.proofs.bytes.values_below.Given as goal

abbrev pub invariant-loop-n : goal.invariant-loop-n
invariant-loop-n l = AreValued (state_of l.disk) l.n (map (λ v. v.items) l.all.items)
