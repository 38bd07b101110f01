use Rattle.std.proofs.Common.{◌++◌, map, take}
use Rattle.std.specs.Io.KnownBytes.{Appends}
use Rattle.cli_text.specs.Facts.{opening, between, fact_text, joined}
use Rattle.cli_text.proofs.fact.write_each_fact.Given as goal

abbrev pub invariant-loop-i : goal.invariant-loop-i
invariant-loop-i g l =
    Appends (g.W.Write.contents l.fn.out) (g.W.Write.contents l.out) (opening l.style ++ joined (between l.style) (map (fact_text l.style) (take l.i l.facts)))
