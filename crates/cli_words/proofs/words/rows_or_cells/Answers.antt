use Rattle.std.proofs.Common.{inr}
use Rattle.cli_words.proofs.words.rows_or_cells.Goals as goal

pub returns-in-None : goal.returns-in-None
returns-in-None c = inr c.in-None.ensures
