use Rattle.history.proofs.GreatestSoFar.{IsGreatestTo}
use Rattle.history.proofs.table.Table.new.Given as goal

abbrev pub invariant-loop-place : goal.invariant-loop-place
invariant-loop-place l = IsGreatestTo l.fn.until.items l.place l.most l.greatest.items
