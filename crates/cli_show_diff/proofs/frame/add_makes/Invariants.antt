use Rattle.std.proofs.Common.{take}
use Rattle.cli_show_diff.specs.Frames.{AreTextsOf, IsMakeText}
use Rattle.cli_show_diff.proofs.TextsAdded.{Added}
use Rattle.cli_show_diff.proofs.frame.add_makes.Given as goal

abbrev pub invariant-loop-object : goal.invariant-loop-object
invariant-loop-object l = Added (AreTextsOf (IsMakeText l.olds) (take l.object-index l.news)) l.fn.out.items l.out.items
