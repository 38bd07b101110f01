use Rattle.std.proofs.Common.{map}
use Rattle.std.specs.Prelude.{codes}
use Rattle.cli_words.specs.Line.{GiveTexts}
use Rattle.cli_words.proofs.tables.Tables.names.Given as goal

abbrev pub invariant-loop-i : goal.invariant-loop-i
invariant-loop-i l = GiveTexts (codes "--table") (map (λ w. w.now) l.self.options.now) l.i (map (λ w. w.now) l.names.items)
