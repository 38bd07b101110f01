use Rattle.std.proofs.Common.{◌≡◌, ℕ, ◌*◌, List, take}
use Rattle.sqwal.specs.declared.sum.Order.{Order}
use Rattle.sqwal.specs.Sums.{number, GoesOn}
use Rattle.sqwal.proofs.sum.Sum.pairs.Given as goal

abbrev pub invariant-loop-pair : goal.invariant-loop-pair
invariant-loop-pair g l = (order : Order) → ((x : List ℕ) → number order (take 4 x) ≡ g.T.ByteOrder.number_of 4 x) → GoesOn order (take (8 * l.pair-index) l.bytes) l.initial.sum l.sum
