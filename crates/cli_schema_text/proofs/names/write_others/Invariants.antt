use Rattle.std.proofs.Common.{map, take}
use Rattle.std.specs.Io.KnownBytes.{Appends}
use Rattle.cli_row_text.specs.Inserts.{columns_text}
use Rattle.cli_schema_text.proofs.names.write_others.Given as goal

abbrev pub invariant-loop-name : goal.invariant-loop-name
invariant-loop-name g l =
    Appends (g.W.Write.contents l.fn.out) (g.W.Write.contents l.out) (columns_text (map (λ n. n.items) (take l.name-index l.names)))
