use Rattle.std.proofs.Common.{◌≤◌, ◌-◌, length}
use Rattle.rig_play.specs.Trace.{AreRecords}
use Rattle.rig_play.proofs.trace.records_from.Given as goal

abbrev pub decreases-loop-records : goal.decreases-loop-records
decreases-loop-records l = length l.bytes - l.at

abbrev pub invariant-loop-records : goal.invariant-loop-records
invariant-loop-records l = record {
  there : l.at ≤ length l.bytes;
  records : AreRecords l.bytes l.start l.records.items l.at;
}
