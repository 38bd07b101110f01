use Rattle.cli_show.proofs.AskedFronts.{front_asked}
use Rattle.cli_dump.proofs.commits.front_at.Goals as goal

pub returns-in-Ok-clause-front : goal.returns-in-Ok-clause-front
returns-in-Ok-clause-front g c = λ given.
    let bytes = g.F.FileBytes.bytes in
    let files = c.args.files in
    front_asked c.args.limits bytes (bytes files.db) (bytes files.wal) (bytes files.journal) c.in-Ok.view c.args.at c.of_view.result
    (c.in-Ok.ensures.answer given) c.of_view.ensures

pub returns-in-Err-clause-refused : goal.returns-in-Err-clause-refused
returns-in-Err-clause-refused g c = λ given.
    (c.in-Err.error, c.in-Err.ensures.answer given, c.from.ensures)
