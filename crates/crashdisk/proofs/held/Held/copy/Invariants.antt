use Rattle.crashdisk.proofs.Words.{take, ◌≡◌}
use Rattle.crashdisk.proofs.held.Held.copy.Given as goal

abbrev pub invariant-loop-values : goal.invariant-loop-values
invariant-loop-values l = l.sectors.items ≡ take l.values-index l.self.sectors.items
