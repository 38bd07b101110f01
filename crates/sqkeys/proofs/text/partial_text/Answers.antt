use Rattle.std.proofs.Common.{true, refl}
use Rattle.sqkeys.proofs.TextsRead.{apart, other_end, none_read}
use Rattle.sqkeys.proofs.text.partial_text.Goals as goal

pub returns-else-made : goal.returns-else-made
returns-else-made c =
    other_end c.args.text.now true c.in-Some.made (rw c.in-Some.is at c.in_ok-made.ensures) (λ same. apart _ _ same c.if-made.false refl)

pub returns-in-None : goal.returns-in-None
returns-in-None c = none_read c.args.text.now true (rw c.in-None.is at c.in_ok-made.ensures)
