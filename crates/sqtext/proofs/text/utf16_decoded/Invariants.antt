use Rattle.std.proofs.Common.{length}
use Rattle.sqtext.proofs.TextsRead.{IsReadTo}
use Rattle.sqtext.proofs.text.utf16_decoded.Given as goal

abbrev pub invariant-chars : goal.invariant-chars
invariant-chars l = IsReadTo l.big l.bytes l.rest l.text.items

abbrev pub decreases-chars : goal.decreases-chars
decreases-chars l = length l.rest
