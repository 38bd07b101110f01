use Rattle.sqkeys.proofs.TextsRead.{other_rows, none_rows}
use Rattle.sqkeys.proofs.text.rows_table.Goals as goal

pub returns-then-made : goal.returns-then-made
returns-then-made c = other_rows c.args.text.now c.in-Some.made (rw c.in-Some.is at c.in_ok-made.ensures) c.if-made.true

pub returns-in-None : goal.returns-in-None
returns-in-None c = none_rows c.args.text.now (rw c.in-None.is at c.in_ok-made.ensures)
