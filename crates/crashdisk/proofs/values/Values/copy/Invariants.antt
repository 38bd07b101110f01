use Rattle.crashdisk.proofs.Words.{take, ◌≡◌}
use Rattle.crashdisk.proofs.values.Values.copy.Given as goal

abbrev pub invariant-loop-value : goal.invariant-loop-value
invariant-loop-value l = l.list.items ≡ take l.value-index l.value-items
