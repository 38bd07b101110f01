use Rattle.std.proofs.Common.{false, take}
use Rattle.std.specs.Prelude.{All}
use Rattle.cli_show_rows.specs.Dumps.{IsCounting}
use Rattle.cli_show_rows.proofs.texts.are_counting.Given as goal

abbrev pub invariant-loop-object : goal.invariant-loop-object
invariant-loop-object l = All (λ o. IsCounting o false) (take l.object-index l.objects)
