use Rattle.std.proofs.Common.{◌≤◌, ◌-◌, length}
use Rattle.rig_store.specs.Calls.{AreCalls}
use Rattle.rig_store.proofs.call.calls_from.Given as goal

abbrev pub decreases-loop-calls : goal.decreases-loop-calls
decreases-loop-calls l = length l.bytes - l.at

abbrev pub invariant-loop-calls : goal.invariant-loop-calls
invariant-loop-calls l = record {
  there : l.at ≤ length l.bytes;
  calls : AreCalls l.bytes l.start l.calls.items l.at;
}
