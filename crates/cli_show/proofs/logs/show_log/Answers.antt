use Rattle.cli_show.specs.Limits.{limits_named}
use Rattle.cli_show.proofs.logs.show_log.Goals as goal

pub returns-in-Ok-clause-front : goal.returns-in-Ok-clause-front
returns-in-Ok-clause-front g c = λ given_wal given_journal.
    let bytes = g.F.FileBytes.bytes in
    c.front.ensures (limits_named c.args.options.large) (bytes c.args.wal.now) (bytes c.args.journal.now) (c.in-Ok.ensures.shown given_wal given_journal)
