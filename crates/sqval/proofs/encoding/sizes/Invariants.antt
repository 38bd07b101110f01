use Rattle.std.proofs.Common.{take, map}
use Rattle.sqval.specs.Datum.{datum_of}
use Rattle.sqval.proofs.payload.ShortestRecord.{Summed}
use Rattle.sqval.proofs.encoding.sizes.Given as goal

abbrev pub invariant-loop-value : goal.invariant-loop-value
invariant-loop-value l = Summed (map datum_of (take l.value-index l.values)) l.types l.bodies
