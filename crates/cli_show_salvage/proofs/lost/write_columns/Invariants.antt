use Rattle.std.specs.Io.KnownBytes.{Appends}
use Rattle.cli_show_salvage.specs.Lost.{added_texts}
use Rattle.cli_show_salvage.proofs.lost.write_columns.Given as goal

abbrev pub invariant-columns : goal.invariant-columns
invariant-columns g l = Appends (g.W.Write.contents l.fn.out) (g.W.Write.contents l.out) (added_texts l.name l.from l.k)
