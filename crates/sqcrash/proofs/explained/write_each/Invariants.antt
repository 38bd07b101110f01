use Rattle.std.proofs.Common.{take}
use Rattle.std.specs.List.{flat_map}
use Rattle.std.specs.Io.KnownBytes.{Appends}
use Rattle.sqcrash.specs.Lines.{missing_text}
use Rattle.sqcrash.proofs.explained.write_each.Given as goal

abbrev pub invariant-loop-call : goal.invariant-loop-call
invariant-loop-call g l = Appends (g.O.Write.contents l.initial.out) (g.O.Write.contents l.out) (flat_map (missing_text l.style) (take l.call-index l.missing))
