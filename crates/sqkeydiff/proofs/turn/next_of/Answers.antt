use Rattle.std.proofs.Common.{◌∙◌, sym}
use Rattle.sqkeydiff.proofs.NextRows.{second_below}
use Rattle.sqkeydiff.proofs.turn.next_of.Goals as goal

pub returns-in-Greater : goal.returns-in-Greater
returns-in-Greater c =
    second_below c.args.order c.args.old.now c.args.new.now _ _ c.in-At.is c.in-At-new.is (sym c.cmp_entry.ensures ∙ c.in-Greater.is)
