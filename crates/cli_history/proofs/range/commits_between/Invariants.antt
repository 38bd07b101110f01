use Rattle.std.proofs.Common.{◌≡◌, take}
use Rattle.std.specs.List.{filter}
use Rattle.cli_history.specs.Ranges.{is_between}
use Rattle.cli_history.proofs.range.commits_between.Given as goal

abbrev pub invariant-loop-frame : goal.invariant-loop-frame
invariant-loop-frame l = l.list.items ≡ filter (is_between l.from l.to) (take l.frame-index l.frame-items)
