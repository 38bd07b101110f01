use Rattle.std.proofs.Common.{take}
use Rattle.std.specs.Io.KnownBytes.{Appends}
use Rattle.sqcrash_store.specs.Objects.{members, range_object}
use Rattle.sqcrash_store.proofs.objects.write_ranges.Given as goal

abbrev pub invariant-loop-i : goal.invariant-loop-i
invariant-loop-i g l = Appends (g.O.Write.contents l.initial.out) (g.O.Write.contents l.out) (members range_object (take l.i l.ranges))
