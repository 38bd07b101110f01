use Rattle.std.proofs.Common.{◌∙◌, inl, inr, sym}
use Rattle.cli_show_diff.proofs.left.is_made.Goals as goal

pub returns-then-not-is_table-clause-not : goal.returns-then-not-is_table-clause-not
returns-then-not-is_table-clause-not c = λ _. inl (c.is_table.ensures.not c.if-not-is_table.true)

pub returns-then-not-is_asked-clause-not : goal.returns-then-not-is_asked-clause-not
returns-then-not-is_asked-clause-not c = λ _. inr (inl (sym c.is_asked.ensures ∙ c.if-not-is_asked.true))

pub returns-then-is_there-clause-not : goal.returns-then-is_there-clause-not
returns-then-is_there-clause-not c = λ _. inr (inr (c.is_there.ensures.yes c.if-is_there.true))

pub returns-clause-yes : goal.returns-clause-yes
returns-clause-yes c = λ _. (c.is_table.ensures.yes c.if-not-is_table.false, sym c.is_asked.ensures ∙ c.if-not-is_asked.false, c.is_there.ensures.not c.if-is_there.false)
