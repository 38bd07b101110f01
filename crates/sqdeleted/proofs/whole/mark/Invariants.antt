use Rattle.sqdeleted.proofs.WholePlaces.{MarkedTo}
use Rattle.sqdeleted.proofs.whole.mark.Given as goal

abbrev pub invariant-places : goal.invariant-places
invariant-places l = MarkedTo l.fn.held.items l.held.items l.from l.at
