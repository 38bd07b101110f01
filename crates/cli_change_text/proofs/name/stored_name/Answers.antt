use Rattle.std.proofs.Common.{◌∙◌, ap}
use Rattle.cli_change_text.specs.Names.{name_at}
use Rattle.cli_change_text.proofs.name.stored_name.Goals as goal

pub returns : goal.returns
returns c = c.name_at.ensures ∙ ap (name_at c.args.columns.now) c.column_at.ensures
