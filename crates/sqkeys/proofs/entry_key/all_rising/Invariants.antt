use Rattle.std.proofs.Common.{◌≡◌, map, take}
use Rattle.sqkeys.specs.Entries.{rising}
use Rattle.sqkeys.proofs.entry_key.all_rising.Given as goal

abbrev pub invariant-loop-keyed : goal.invariant-loop-keyed
invariant-loop-keyed l = l.all.items ≡ map rising (take l.keyed-index l.key)
