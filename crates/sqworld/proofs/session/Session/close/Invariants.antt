use Rattle.sqworld.proofs.Facts.{length, ◌≡◌}
use Rattle.sqworld.proofs.session.Session.close.Given as goal

abbrev pub invariant-loop-slot : goal.invariant-loop-slot
invariant-loop-slot l = l.wal.disk ≡ l.fn.self.wal.disk

abbrev pub decreases-loop-slot : goal.decreases-loop-slot
decreases-loop-slot l = length l.slots.items
