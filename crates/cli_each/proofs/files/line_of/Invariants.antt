use Rattle.cli_each.specs.Lines.{AreLeft, texts}
use Rattle.cli_each.proofs.files.line_of.Given as goal

abbrev pub invariant-loop-i : goal.invariant-loop-i
invariant-loop-i l = AreLeft (texts l.words) l.place l.i (texts l.left.items)
