use Rattle.std.proofs.Common.{◌≡◌}
use Rattle.cli_facts.proofs.system_file.part_of.Given as goal

abbrev pub invariant-loop-i : goal.invariant-loop-i
invariant-loop-i g l = g.F.SystemFile.never_fails l.file → l.i ≡ 0
