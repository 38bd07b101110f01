use Rattle.std.proofs.Common.{List, ℕ, map, take}
use Rattle.std.specs.Io.KnownBytes.{Appends}
use Rattle.sqval.specs.Datum.{row_of}
use Rattle.cli_row_text.specs.Lines.{AreTexts}
use Rattle.cli_row_text.proofs.line.write_values.Given as goal

abbrev pub invariant-loop-i : goal.invariant-loop-i
invariant-loop-i g l =
    (t : List ℕ) × AreTexts l.form (map (λ n. n.items) l.names) 0 (row_of (take l.i l.values)) t × Appends (g.W.Write.contents l.fn.out) (g.W.Write.contents l.out) t
