use Rattle.std.proofs.Common.{◌≡◌, take}
use Rattle.sqkeys.proofs.keyed.copies.Given as goal

abbrev pub invariant-loop-keyed : goal.invariant-loop-keyed
invariant-loop-keyed l = l.all.items ≡ take l.keyed-index l.named
