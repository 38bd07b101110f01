use Rattle.std.proofs.Common.{◌∙◌, ap, inl, inr, not}
use Rattle.cli_schema_text.specs.Names.{can_be_named}
use Rattle.cli_show_diff.proofs.left.is_old_left.Goals as goal

pub returns-then-not-is_stated : goal.returns-then-not-is_stated
returns-then-not-is_stated c = inr (c.is_stated.ensures.not c.if-not-is_stated.true, c.is_virtual_left.ensures)

pub returns : goal.returns
returns c = inl (c.is_stated.ensures.yes c.if-not-is_stated.false, ap (λ b. not b) (c.can_be_named.ensures ∙ ap (λ n. can_be_named n) c.as_slice.ensures.value))
