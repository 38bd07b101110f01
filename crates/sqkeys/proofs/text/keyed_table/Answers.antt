use Rattle.std.proofs.Common.{◌≡◌, Bool, true, false}
use Rattle.std.specs.Prelude.{not}
use Rattle.sqkeys.proofs.TextsRead.{other_kind, not_clear, none_sorted}
use Rattle.sqkeys.proofs.text.keyed_table.Goals as goal

not_both : (a : Bool) → not a ≡ true → a ≡ true → ⊥
not_both true other same = cc
not_both false other same = cc

pub returns-then-not-made : goal.returns-then-not-made
returns-then-not-made c =
    other_kind c.args.text.now true c.in-Some.made (rw c.in-Some.is at c.in_ok-made.ensures) (λ same. not_both _ c.if-not-made.true same)

pub returns-else-made : goal.returns-else-made
returns-else-made c = not_clear c.args.text.now true c.in-Some.made (rw c.in-Some.is at c.in_ok-made.ensures) c.if-made.false

pub returns-in-None : goal.returns-in-None
returns-in-None c = none_sorted c.args.text.now true (rw c.in-None.is at c.in_ok-made.ensures)
