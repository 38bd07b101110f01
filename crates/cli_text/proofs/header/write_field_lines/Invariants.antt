use Rattle.std.proofs.Common.{take}
use Rattle.std.specs.Io.KnownBytes.{Appends}
use Rattle.std.specs.List.{flat_map}
use Rattle.cli_text.specs.Headers.{field_line}
use Rattle.cli_text.proofs.header.write_field_lines.Given as goal

abbrev pub invariant-loop-field : goal.invariant-loop-field
invariant-loop-field g l =
    Appends (g.W.Write.contents l.fn.out) (g.W.Write.contents l.out) (flat_map (λ f. field_line f.0.now f.1) (take l.field-index l.fields))
