use Rattle.std.proofs.Common.{◌*◌}
use Rattle.std.specs.Fork.{slice_chunk}
use Rattle.std.specs.Io.KnownBytes.{Appends}
use Rattle.std.specs.List.{flat_map, range_with_len}
use Rattle.cli_text.specs.HexLines.{bytes_line}
use Rattle.cli_text.proofs.hex_lines.write_bytes.Given as goal

abbrev pub invariant-loop-k : goal.invariant-loop-k
invariant-loop-k g l =
    Appends (g.W.Write.contents l.fn.out) (g.W.Write.contents l.out) (flat_map (λ k. bytes_line l.style (k * 16) (slice_chunk l.page 16 k)) (range_with_len 0 l.k))
