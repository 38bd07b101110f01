use Rattle.crashdisk.proofs.Words.{EachOf, Gets, take}
use Rattle.crashdisk.proofs.held.append.Given as goal

abbrev pub invariant-loop-done : goal.invariant-loop-done
invariant-loop-done l = EachOf (take l.done l.list) (Gets l.sector l.change.from l.change.keep l.change.bytes.now l.list) l.fn.sectors.items l.sectors.items
