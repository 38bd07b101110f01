use Rattle.std.proofs.Common.{refl}
use Rattle.cli_text.specs.Logs.{journal_text}
use Rattle.cli_show.proofs.logs.show_journal.Goals as goal

pub returns-in-Ok-clause-text : goal.returns-in-Ok-clause-text
returns-in-Ok-clause-text g c = λ given.
    let read = (c.in_ok-replay.ensures.found given).1 in
    let shown = c.in-Ok.ensures read.front read.took in
    (journal_text c.args.style shown.0, (c.in_ok-replay.replay, read, shown.0, shown.1, refl), shown.2)
