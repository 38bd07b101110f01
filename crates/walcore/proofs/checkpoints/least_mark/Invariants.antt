use Rattle.walcore.proofs.Facts.{IsLeast, take}
use Rattle.walcore.proofs.checkpoints.least_mark.Given as goal

abbrev pub invariant-loop-mark : goal.invariant-loop-mark
invariant-loop-mark l = IsLeast (take l.mark-index l.marks) l.newest l.least
