use Rattle.cli_each.specs.Lines.{AreFree, texts}
use Rattle.cli_each.proofs.files.files_of.Given as goal

abbrev pub invariant-loop-i : goal.invariant-loop-i
invariant-loop-i l = AreFree (texts l.words) l.i l.places.items
