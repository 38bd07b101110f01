use Rattle.std.proofs.Common.{false, refl}
use Rattle.sqkeys.proofs.TextsRead.{apart, other_end, none_read}
use Rattle.sqkeys.proofs.text.index_text.Goals as goal

pub returns-then-made : goal.returns-then-made
returns-then-made c =
    other_end c.args.text.now false c.in-Some.made (rw c.in-Some.is at c.in_ok-made.ensures) (λ same. apart _ _ c.if-made.true same refl)

pub returns-in-None : goal.returns-in-None
returns-in-None c = none_read c.args.text.now false (rw c.in-None.is at c.in_ok-made.ensures)
