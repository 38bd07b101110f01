use Rattle.std.proofs.Common.{[]}
use Rattle.rig_judge.specs.Shown.{ShowsNoneFrom, commits_of}
use Rattle.rig_judge.proofs.history.History.shown_by_nothing.Given as goal

abbrev pub invariant-loop-k : goal.invariant-loop-k
invariant-loop-k l = ShowsNoneFrom (commits_of l.self) l.k []
