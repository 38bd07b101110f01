use Rattle.crashdisk.proofs.Words.{EachOf, Takes, take}
use Rattle.crashdisk.proofs.held.take_picked.Given as goal

abbrev pub invariant-loop-i : goal.invariant-loop-i
invariant-loop-i l = EachOf (take l.i l.list) (Takes l.pick) l.fn.sectors.items l.sectors.items
