use Rattle.cli_text.specs.internal.Logs.{log_of}
use Rattle.cli_text.proofs.logs.write_commits.Goals as goal

pub returns : goal.returns
returns g c most b took = (log_of c.shown_by.result, c.shown_by.ensures most b took, c.write_shown_commits.ensures)
