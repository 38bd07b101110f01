use Rattle.std.proofs.Common.{take}
use Rattle.cli_show_diff.specs.Frames.{AreTextsOf, IsDropText}
use Rattle.cli_show_diff.proofs.TextsAdded.{Added}
use Rattle.cli_show_diff.proofs.frame.add_drops.Given as goal

abbrev pub invariant-loop-object : goal.invariant-loop-object
invariant-loop-object l = Added (AreTextsOf (IsDropText l.news) (take l.object-index l.olds)) l.fn.out.items l.out.items
