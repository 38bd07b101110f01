use Rattle.std.proofs.Common.{[], take}
use Rattle.sqcrash.specs.Runs.{no_run}
use Rattle.sqcrash.specs.Marked.{MarksAll}
use Rattle.sqcrash.specs.Markings.{marking_of}
use Rattle.sqcrash.proofs.marked.take_marked.Given as goal

abbrev pub invariant-loop-call : goal.invariant-loop-call
invariant-loop-call l =
    MarksAll l.bytes (take l.call-index l.records) (record { run = no_run l.fn.plan.promise l.fn.plan.sector l.fn.plan.tears l.fn.plan.meta; faults = [] }) (marking_of l.marking)
