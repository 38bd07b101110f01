use Rattle.std.proofs.Common.{◌≡◌, take}
use Rattle.std.specs.Prelude.{option_map}
use Rattle.sqdefaults.specs.Defaults.{last_said}
use Rattle.sqtables.specs.Keys.{primary_in}
use Rattle.sqtables.proofs.keys.primary_of.Given as goal

abbrev pub invariant-loop-rule : goal.invariant-loop-rule
invariant-loop-rule l = option_map (λ named. named.now) l.found ≡ last_said primary_in (take l.rule-index l.rules)
