use Rattle.std.proofs.Common.{length, ◌-◌, ◌≤◌}
use Rattle.filedisk.proofs.file_disk.read_or_zeros.Given as goal

abbrev pub invariant-loop-from : goal.invariant-loop-from
invariant-loop-from g l = l.from ≤ length l.out

abbrev pub decreases-loop-from : goal.decreases-loop-from
decreases-loop-from g l = length l.out - l.from
