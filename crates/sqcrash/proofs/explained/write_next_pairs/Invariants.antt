use Rattle.std.proofs.Common.{take}
use Rattle.std.specs.List.{flat_map}
use Rattle.std.specs.Io.KnownBytes.{Appends}
use Rattle.sqcrash.specs.Objects.{next_pair}
use Rattle.sqcrash.proofs.explained.write_next_pairs.Given as goal

abbrev pub invariant-loop-range : goal.invariant-loop-range
invariant-loop-range g l = Appends (g.O.Write.contents l.initial.out) (g.O.Write.contents l.out) (flat_map next_pair (take l.range-index l.ranges))
