use Rattle.rig_shrink.specs.internal.Values.{IsEach}
use Rattle.rig_shrink.proofs.bytes.each.Given as goal

abbrev pub invariant-loop-k : goal.invariant-loop-k
invariant-loop-k l = IsEach l.number l.k l.picks.items
