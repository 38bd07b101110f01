use Rattle.std.proofs.Common.{◌≡◌, take}
use Rattle.std.specs.Prelude.{option_copied}
use Rattle.sqdefaults.specs.Defaults.{last_said, default_in}
use Rattle.sqdefaults.proofs.default.last_default.Given as goal

abbrev pub invariant-loop-rule : goal.invariant-loop-rule
invariant-loop-rule l = option_copied l.found ≡ last_said (default_in l.name) (take l.rule-index l.rules)
