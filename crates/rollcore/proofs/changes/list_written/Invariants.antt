use Rattle.rollcore.proofs.Facts.{lent, take, ◌≡◌}
use Rattle.rollcore.specs.internal.Listing.{written}
use Rattle.rollcore.proofs.changes.list_written.Given as goal

abbrev pub invariant-loop-k : goal.invariant-loop-k
invariant-loop-k l = l.changes.items ≡ written l.old_size 0 (lent (take l.k l.pages))
