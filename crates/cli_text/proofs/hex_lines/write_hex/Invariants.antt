use Rattle.std.proofs.Common.{◌≡◌, ℕ, List, ◌++◌, length}
use Rattle.std.specs.Io.KnownBytes.{Appends}
use Rattle.hex.specs.Hex.{encode_lower}
use Rattle.cli_text.proofs.hex_lines.write_hex.Given as goal

abbrev pub invariant-loop-rest : goal.invariant-loop-rest
invariant-loop-rest g l =
    (length l.text ≡ 1024) × ((done : List ℕ) × (done ++ l.rest ≡ l.bytes) × Appends (g.W.Write.contents l.fn.out) (g.W.Write.contents l.out) (encode_lower done))

abbrev pub decreases-loop-rest : goal.decreases-loop-rest
decreases-loop-rest g l = length l.rest
