use Rattle.std.proofs.Common.{◌≤◌, take}
use Rattle.cli_show_diff.specs.Changes.{texts_of}
use Rattle.cli_show_diff.specs.LeftOut.{HasCount, IsOldLeft}
use Rattle.cli_show_diff.proofs.left.count_olds.Given as goal

abbrev pub invariant-loop-object : goal.invariant-loop-object
invariant-loop-object l = record { few : l.count ≤ l.object-index; counted : HasCount (IsOldLeft (texts_of l.names) l.news) (take l.object-index l.olds) l.count }
