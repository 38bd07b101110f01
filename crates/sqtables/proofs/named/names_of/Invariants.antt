use Rattle.std.proofs.Common.{◌≡◌, map, take}
use Rattle.sqtables.proofs.named.names_of.Given as goal

abbrev pub invariant-loop-column : goal.invariant-loop-column
invariant-loop-column l = map (λ n. n.items) l.names.items ≡ map (λ c. c.0) (take l.column-index l.columns)
