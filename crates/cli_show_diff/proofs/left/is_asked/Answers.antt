use Rattle.std.proofs.Common.{◌∙◌, sym}
use Rattle.cli_show_diff.proofs.NamesAsked.{asked_some}
use Rattle.cli_show_diff.proofs.left.is_asked.Goals as goal

pub returns-else-is_empty : goal.returns-else-is_empty
returns-else-is_empty c = asked_some c.args.object.now c.args.names.now c.is_among.result (sym c.is_empty.ensures ∙ c.if-is_empty.false) c.is_among.ensures
