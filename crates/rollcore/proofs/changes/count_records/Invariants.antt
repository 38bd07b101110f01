use Rattle.rollcore.proofs.Facts.{lent, take, there, ◌+◌, ◌-◌, ◌≡◌}
use Rattle.rollcore.proofs.changes.count_records.Given as goal

abbrev pub invariant-loop-x : goal.invariant-loop-x
invariant-loop-x l = l.records ≡ (l.old_size - l.size) + there l.old_size (lent (take l.x-index l.pages))
