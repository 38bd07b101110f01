use Rattle.std.proofs.Common.{length}
use Rattle.sqdeep.specs.internal.Columns.{AreFormedColumns}
use Rattle.sqdeep.proofs.records.are_formed.Given as goal

abbrev pub invariant-columns : goal.invariant-columns
invariant-columns l = AreFormedColumns l.encoding l.rest l.behind → AreFormedColumns l.encoding l.types l.bodies

abbrev pub decreases-columns : goal.decreases-columns
decreases-columns l = length l.rest
