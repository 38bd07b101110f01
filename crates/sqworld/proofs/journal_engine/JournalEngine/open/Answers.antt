use Rattle.sqworld.proofs.Facts.{open_answers, state_of}
use Rattle.sqworld.proofs.journal_engine.JournalEngine.open.Goals as goal

pub returns-in-Ok : goal.returns-in-Ok
returns-in-Ok c tears =
    open_answers c.args.page_size tears c.args.self c.open_disk-engine.result.0 c.open_disk-engine.result.1 c.in-Ok.found (state_of c.into_disk-disk.result) c.into_disk-disk.ensures c.in-Ok.ensures c.open_disk-engine.ensures
