use Rattle.std.proofs.Common.{false, refl}
use Rattle.sqkeys.proofs.TextsRead.{apart, other_kind, not_clear, none_sorted}
use Rattle.sqkeys.proofs.text.rowid_table.Goals as goal

pub returns-then-made : goal.returns-then-made
returns-then-made c =
    other_kind c.args.text.now false c.in-Some.made (rw c.in-Some.is at c.in_ok-made.ensures) (λ same. apart _ _ c.if-made.true same refl)

pub returns-else-made-2 : goal.returns-else-made-2
returns-else-made-2 c = not_clear c.args.text.now false c.in-Some.made (rw c.in-Some.is at c.in_ok-made.ensures) c.if-made-2.false

pub returns-in-None : goal.returns-in-None
returns-in-None c = none_sorted c.args.text.now false (rw c.in-None.is at c.in_ok-made.ensures)
