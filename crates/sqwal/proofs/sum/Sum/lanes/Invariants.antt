use Rattle.std.proofs.Common.{◌≡◌, ℕ, List, take}
use Rattle.sqwal.specs.Sums.{number}
use Rattle.sqwal.specs.declared.sum.Order.{Order}
use Rattle.sqwal.specs.internal.Lanes.{AreLanes}
use Rattle.sqwal.proofs.sum.Sum.lanes.Given as goal

abbrev pub invariant-loop-i : goal.invariant-loop-i
invariant-loop-i g l = (order : Order) → ((x : List ℕ) → number order (take 4 x) ≡ g.T.ByteOrder.number_of 4 x) → AreLanes order l.bytes l.count l.i l.fn.self l.first l.second
