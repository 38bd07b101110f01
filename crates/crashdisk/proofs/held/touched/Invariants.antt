use Rattle.crashdisk.proofs.Between.{Below, Touches, file_by}
use Rattle.crashdisk.proofs.held.touched.Given as goal

abbrev pub invariant-loop-k : goal.invariant-loop-k
invariant-loop-k l = Below (Touches l.sector (file_by l.sector l.sectors l.len 0 0) l.change.from l.change.to l.change.end) l.k l.list.items
