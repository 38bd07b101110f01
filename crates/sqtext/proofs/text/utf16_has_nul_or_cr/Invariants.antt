use Rattle.std.proofs.Common.{◌≡◌, ℕ, List, length}
use Rattle.sqtext.specs.Texts.{has_nul_or_cr}
use Rattle.sqtext.proofs.TextsRead.{IsReadTo}
use Rattle.sqtext.proofs.text.utf16_has_nul_or_cr.Given as goal

abbrev pub invariant-chars : goal.invariant-chars
invariant-chars l = record {
  done : List ℕ;
  read : IsReadTo l.big l.bytes l.rest done;
  found : l.found ≡ has_nul_or_cr done;
}

abbrev pub decreases-chars : goal.decreases-chars
decreases-chars l = length l.rest
