use Rattle.std.proofs.Common.{◌≡◌, map, take}
use Rattle.sqkeys.proofs.keyed.key_names.Given as goal

abbrev pub invariant-loop-keyed : goal.invariant-loop-keyed
invariant-loop-keyed l = l.names.items ≡ map (λ keyed. keyed.name) (take l.keyed-index l.key)
