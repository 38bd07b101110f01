use Rattle.std.proofs.Common.{take, map}
use Rattle.sqval.specs.Datum.{datum_of}
use Rattle.sqval.proofs.payload.ShortestRecord.{Typed}
use Rattle.sqval.proofs.encoding.push_types.Given as goal

abbrev pub invariant-loop-value : goal.invariant-loop-value
invariant-loop-value l = Typed (map datum_of (take l.value-index l.values)) l.initial.out.items l.out.items
