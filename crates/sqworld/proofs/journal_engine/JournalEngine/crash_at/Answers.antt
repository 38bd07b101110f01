use Rattle.sqworld.proofs.Facts.{crash_at_answers, state_of}
use Rattle.sqworld.proofs.journal_engine.JournalEngine.crash_at.Goals as goal

pub returns-in-Ok : goal.returns-in-Ok
returns-in-Ok c page_size =
    crash_at_answers page_size c.args.tears c.args.number c.args.self c.crash_disk_at.new.disk c.in-Ok.crashed (state_of c.into_disk-disk.result) c.into_disk-disk.ensures c.in-Ok.ensures.left c.in-Ok.ensures.cleared
