use Rattle.std.proofs.Common.{map, take}
use Rattle.std.specs.Io.KnownBytes.{Appends}
use Rattle.cli_text.specs.Facts.{joined}
use Rattle.cli_show_deep.specs.Parts.{comma, thing_text}
use Rattle.cli_show_deep.proofs.parts.write_parts.Given as goal

abbrev pub invariant-loop-i : goal.invariant-loop-i
invariant-loop-i g l = Appends (g.W.Write.contents l.fn.out) (g.W.Write.contents l.out) (joined comma (map (thing_text l.schema) (take l.i l.listed)))
