use Rattle.sqkeys.proofs.TextsRead.{bound_table, no_table, only_table}
use Rattle.sqkeys.proofs.text.table_in.Goals as goal

pub returns-in_default : goal.returns-in_default
returns-in_default c = no_table c.args.text.now c.in_ok-made.field-0 c.in_default.is c.in_ok-made.ensures.only

pub returns-then-made : goal.returns-then-made
returns-then-made c = bound_table c.args.text.now c.in_ok-made.field-0 c.in-Some.made c.in-Some.is c.in_ok-made.ensures.only c.if-made.true

pub returns-else-made : goal.returns-else-made
returns-else-made c =
    only_table c.args.text.now c.in_ok-made.field-0 c.in-Some.made c.in-Some.is (rw c.in-Some.is at c.in_ok-made.ensures.found) c.if-made.false c.in_ok-made.ensures.only
