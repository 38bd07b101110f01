use Rattle.std.proofs.Common.{◌≡◌, ℕ, ◌<◌, ◌∷◌, [], slice_index}
use Rattle.cli_row_text.specs.Lines.{escaped}
use Rattle.cli_row_text.proofs.value.before_escape.Given as goal

abbrev pub invariant-loop-i : goal.invariant-loop-i
invariant-loop-i l = (k : ℕ) → k < l.i → escaped (slice_index l.bytes k) ≡ slice_index l.bytes k ∷ []
