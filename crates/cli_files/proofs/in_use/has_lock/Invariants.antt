use Rattle.std.proofs.Common.{◌≤◌}
use Rattle.cli_files.proofs.in_use.has_lock.Given as goal

-- what is held fits
abbrev pub invariant-loop : goal.invariant-loop
invariant-loop g l = l.held ≤ 8192
