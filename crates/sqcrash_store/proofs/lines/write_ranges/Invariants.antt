use Rattle.std.proofs.Common.{take}
use Rattle.std.specs.Io.KnownBytes.{Appends}
use Rattle.sqcrash_store.specs.Lines.{ranges_text}
use Rattle.sqcrash_store.proofs.lines.write_ranges.Given as goal

abbrev pub invariant-loop-range : goal.invariant-loop-range
invariant-loop-range g l = Appends (g.O.Write.contents l.initial.out) (g.O.Write.contents l.out) (ranges_text (take l.range-index l.ranges))
