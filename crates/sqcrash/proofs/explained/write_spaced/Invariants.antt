use Rattle.std.proofs.Common.{take}
use Rattle.std.specs.Io.KnownBytes.{Appends}
use Rattle.sqcrash.specs.Lines.{spaced_text}
use Rattle.sqcrash.proofs.explained.write_spaced.Given as goal

abbrev pub invariant-loop-range : goal.invariant-loop-range
invariant-loop-range g l = Appends (g.O.Write.contents l.initial.out) (g.O.Write.contents l.out) (spaced_text (take l.range-index l.ranges))
