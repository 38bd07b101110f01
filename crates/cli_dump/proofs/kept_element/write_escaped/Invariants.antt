use Rattle.std.proofs.Common.{take}
use Rattle.std.specs.Io.KnownBytes.{Appends}
use Rattle.cli_dump.specs.Elements.{escaped}
use Rattle.cli_dump.proofs.kept_element.write_escaped.Given as goal

abbrev pub invariant-loop-byte : goal.invariant-loop-byte
invariant-loop-byte g l = Appends (g.W.Write.contents l.fn.out) (g.W.Write.contents l.out) (escaped (take l.byte-index l.text))
