use Rattle.std.proofs.Common.{refl}
use Rattle.cli_words.proofs.OptionsOfCommand.{rows_told}
use Rattle.cli_words.proofs.words.rows_asked.Goals as goal

pub returns : goal.returns
returns c = rows_told _ _ _ c.rows_or_cells.result (c.if-not-are_known.ensures.yes refl) c.rows_or_cells.ensures
