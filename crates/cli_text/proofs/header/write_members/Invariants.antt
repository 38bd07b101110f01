use Rattle.std.proofs.Common.{map, take}
use Rattle.std.specs.Io.KnownBytes.{Appends}
use Rattle.cli_words.specs.declared.requests.Style.TheVariants.{Json}
use Rattle.cli_text.specs.Facts.{between, joined, number_text}
use Rattle.cli_text.proofs.header.write_members.Given as goal

abbrev pub invariant-loop-i : goal.invariant-loop-i
invariant-loop-i g l =
    Appends (g.W.Write.contents l.fn.out) (g.W.Write.contents l.out) (joined (between Json) (map (λ f. number_text Json f.0.now f.1) (take l.i l.fields)))
