use Rattle.sqworld.proofs.Facts.{state_of}
use Rattle.sqworld.proofs.serve.AnswersToEvents.{crash_at_answers}
use Rattle.sqworld.proofs.wal_engine.WalEngine.crash_at.Goals as goal

pub returns-in-Ok-clause-answers : goal.returns-in-Ok-clause-answers
returns-in-Ok-clause-answers c page_size event is =
    crash_at_answers page_size c.args.tears event c.args.number c.args.self c.crash_disk_at.new.disk c.close-disk.result.1 c.in-Ok.crashed (state_of c.close-disk.result.0) is c.close-disk.ensures.disk c.close-disk.ensures.begun c.in-Ok.ensures.left c.in-Ok.ensures.cleared
