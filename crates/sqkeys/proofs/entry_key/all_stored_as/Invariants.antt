use Rattle.std.proofs.Common.{take}
use Rattle.std.specs.List.{AllZip}
use Rattle.sqkeys.specs.Entries.{IsStoredAs}
use Rattle.sqkeys.proofs.entry_key.all_stored_as.Given as goal

abbrev pub invariant-loop-keyed : goal.invariant-loop-keyed
invariant-loop-keyed l = AllZip (λ keyed column. IsStoredAs l.body l.key keyed.name column) (take l.keyed-index l.columns) l.all.items
