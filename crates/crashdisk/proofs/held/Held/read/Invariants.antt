use Rattle.crashdisk.proofs.Between.{Copied, length}
use Rattle.crashdisk.proofs.held.Held.read.Given as goal

abbrev pub invariant-loop-k : goal.invariant-loop-k
invariant-loop-k l = Copied l.sector l.self.len l.at (length l.fn.out) l.self.sectors.items l.k l.out
