use Rattle.std.proofs.Common.{◌≤◌, length}
use Rattle.sqcrash_store.proofs.NamedStates.{NoOtherFrom}
use Rattle.sqcrash_store.proofs.verdict.have_no_other.Given as goal

abbrev pub invariant-loop-k : goal.invariant-loop-k
invariant-loop-k l = record {
  there : l.k ≤ length l.states;
  none : NoOtherFrom l.states l.line l.k;
}

abbrev pub decreases-loop-k : goal.decreases-loop-k
decreases-loop-k l = l.k
