use Rattle.std.proofs.Common.{◌≡◌, map, take}
use Rattle.sqkeys.specs.Constraints.{indexes_of}
use Rattle.sqkeys.proofs.automatic.indexes_of.Given as goal

abbrev pub invariant-loop-rule : goal.invariant-loop-rule
invariant-loop-rule l = map (λ named. named.now) l.found.items ≡ indexes_of l.body (take l.rule-index l.body.rules)
