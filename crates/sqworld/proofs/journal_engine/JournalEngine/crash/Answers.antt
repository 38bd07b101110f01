use Rattle.sqworld.proofs.Facts.{crash_answers, state_of}
use Rattle.sqworld.proofs.journal_engine.JournalEngine.crash.Goals as goal

pub returns-in-Ok : goal.returns-in-Ok
returns-in-Ok c page_size =
    crash_answers page_size c.args.tears c.args.choice.now c.args.self c.crash_disk.new.disk c.in-Ok.crashed (state_of c.into_disk-disk.result) c.into_disk-disk.ensures c.in-Ok.ensures.left c.in-Ok.ensures.cleared
