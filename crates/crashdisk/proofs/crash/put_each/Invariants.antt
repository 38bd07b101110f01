use Rattle.crashdisk.proofs.Facts.{Put, length, naming_of}
use Rattle.crashdisk.proofs.crash.put_each.Given as goal

abbrev pub invariant-loop-k : goal.invariant-loop-k
invariant-loop-k l = Put l.sector l.tears (naming_of l.choice) l.sectors (length l.fn.out) l.k l.out
