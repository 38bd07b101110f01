use Rattle.std.proofs.Common.{take}
use Rattle.std.specs.Prelude.{All}
use Rattle.cli_show_diff.specs.Frames.{IsSameVirtual}
use Rattle.cli_show_diff.proofs.frame.has_virtual.Given as goal

abbrev pub invariant-loop-other : goal.invariant-loop-other
invariant-loop-other l = All (λ p. ¬ IsSameVirtual l.object p) (take l.other-index l.others)
