use Rattle.std.specs.Io.KnownBytes.{Appends}
use Rattle.cli_show_salvage.specs.Lost.{named_texts}
use Rattle.cli_show_salvage.proofs.lost.write_names.Given as goal

abbrev pub invariant-names : goal.invariant-names
invariant-names g l = Appends (g.W.Write.contents l.fn.out) (g.W.Write.contents l.out) (named_texts l.k)
