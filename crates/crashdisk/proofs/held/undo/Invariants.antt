use Rattle.crashdisk.proofs.Words.{EachOf, Loses, take}
use Rattle.crashdisk.proofs.held.undo.Given as goal

abbrev pub invariant-loop-k : goal.invariant-loop-k
invariant-loop-k l = EachOf (take l.k-index l.list) Loses l.fn.sectors.items l.sectors.items
