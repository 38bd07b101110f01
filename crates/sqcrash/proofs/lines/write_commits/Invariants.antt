use Rattle.std.proofs.Common.{take}
use Rattle.std.specs.Io.KnownBytes.{Appends}
use Rattle.sqcrash.specs.Lines.{commits_text}
use Rattle.sqcrash.proofs.lines.write_commits.Given as goal

abbrev pub invariant-loop-fault : goal.invariant-loop-fault
invariant-loop-fault g l = Appends (g.O.Write.contents l.initial.out) (g.O.Write.contents l.out) (commits_text l.style (take l.fault-index l.faults))
