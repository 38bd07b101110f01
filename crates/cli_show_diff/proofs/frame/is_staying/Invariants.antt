use Rattle.std.proofs.Common.{◌⊎◌, false, take}
use Rattle.std.specs.Prelude.{All}
use Rattle.cli_show_diff.specs.Frames.{IsTextLeft, IsTriggerNamed}
use Rattle.cli_show_diff.proofs.frame.is_staying.Given as goal

abbrev pub invariant-loop-object : goal.invariant-loop-object
invariant-loop-object l = All (λ o. (¬ IsTriggerNamed l.name o) ⊎ IsTextLeft o false) (take l.object-index l.news)
