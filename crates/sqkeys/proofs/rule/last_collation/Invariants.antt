use Rattle.std.proofs.Common.{◌≡◌, take}
use Rattle.sqdefaults.specs.Defaults.{last_said}
use Rattle.sqkeys.specs.Columns.{collation_in}
use Rattle.sqkeys.proofs.rule.last_collation.Given as goal

abbrev pub invariant-loop-rule : goal.invariant-loop-rule
invariant-loop-rule l = l.found ≡ last_said (collation_in l.name) (take l.rule-index l.rules)
