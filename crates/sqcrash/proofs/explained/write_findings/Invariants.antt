use Rattle.std.proofs.Common.{take}
use Rattle.sqcrash.specs.Lines.{texts_of}
use Rattle.sqcrash.specs.Writes.{Writes}
use Rattle.sqcrash.proofs.explained.write_findings.Given as goal

abbrev pub invariant-loop-finding : goal.invariant-loop-finding
invariant-loop-finding g l =
    Writes l.plan.lines (texts_of l.plan l.at (take l.finding-index l.findings)) l.initial.count l.count (g.O.Write.contents l.initial.out) (g.O.Write.contents l.out)
