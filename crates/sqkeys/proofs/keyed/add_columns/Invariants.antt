use Rattle.std.proofs.Common.{◌≡◌, take}
use Rattle.sqkeys.specs.Keyed.{with_columns_of}
use Rattle.sqkeys.proofs.keyed.add_columns.Given as goal

abbrev pub invariant-loop-keyed : goal.invariant-loop-keyed
invariant-loop-keyed l = l.before.items ≡ with_columns_of l.body l.fn.before.items (take l.keyed-index l.others)
