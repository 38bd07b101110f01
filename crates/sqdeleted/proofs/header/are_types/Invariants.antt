use Rattle.std.proofs.Common.{length}
use Rattle.sqdeleted.proofs.BeginsOfRecords.{Measured}
use Rattle.sqdeleted.proofs.header.are_types.Given as goal

abbrev pub invariant-serials : goal.invariant-serials
invariant-serials l = Measured l.initial.rest l.rest l.initial.left l.left

abbrev pub decreases-serials : goal.decreases-serials
decreases-serials l = length l.rest
