use Rattle.std.proofs.Common.{◌≡◌}
use Rattle.cli_show_diff.specs.Sorted.{is_binary}
use Rattle.cli_show_diff.proofs.sorted.is_binary.Given as goal

abbrev pub invariant-columns : goal.invariant-columns
invariant-columns l = is_binary l.fn.width l.fn.order ≡ is_binary l.left l.rest

abbrev pub decreases-columns : goal.decreases-columns
decreases-columns l = l.left
