use Rattle.std.proofs.Common.{take}
use Rattle.std.specs.List.{AllZip}
use Rattle.sqkeys.specs.Keyed.{IsStoredRule}
use Rattle.sqkeys.proofs.keyed.stored_rules.Given as goal

abbrev pub invariant-loop-name : goal.invariant-loop-name
invariant-loop-name l = AllZip (IsStoredRule l.made l.key) (take l.name-index l.names) l.rules.items
