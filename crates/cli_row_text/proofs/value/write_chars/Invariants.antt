use Rattle.std.proofs.Common.{List, ℕ, length}
use Rattle.std.specs.Io.KnownBytes.{Appends}
use Rattle.std.specs.List.{flat_map}
use Rattle.sqtext.proofs.TextsRead.{IsReadTo}
use Rattle.cli_row_text.specs.internal.Quoting.{byte_text}
use Rattle.cli_row_text.proofs.value.write_chars.Given as goal

abbrev pub invariant-chars : goal.invariant-chars
invariant-chars g l = record {
  done : List ℕ;
  read : IsReadTo l.big l.bytes l.rest done;
  written : Appends (g.W.Write.contents l.fn.out) (g.W.Write.contents l.out) (flat_map (byte_text l.notation) done);
}

abbrev pub decreases-chars : goal.decreases-chars
decreases-chars g l = length l.rest
