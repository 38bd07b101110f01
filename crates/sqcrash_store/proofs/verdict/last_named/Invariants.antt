use Rattle.std.proofs.Common.{◌≤◌, length}
use Rattle.sqcrash_store.specs.Verdicts.{NoneFrom}
use Rattle.sqcrash_store.proofs.verdict.last_named.Given as goal

abbrev pub invariant-loop-k : goal.invariant-loop-k
invariant-loop-k l = record {
  there : l.k ≤ length l.states;
  none : NoneFrom l.states l.line l.k;
}

abbrev pub decreases-loop-k : goal.decreases-loop-k
decreases-loop-k l = l.k
