use Rattle.sqworld.proofs.Facts.{state_of, sym, ◌∙◌}
use Rattle.sqworld.proofs.serve.AnswersToEvents.{open_answers}
use Rattle.sqworld.proofs.wal_engine.WalEngine.open.Goals as goal

pub returns-in-Ok-clause-answers : goal.returns-in-Ok-clause-answers
returns-in-Ok-clause-answers c tears event is =
    open_answers c.args.page_size tears event c.args.self c.open_disk-engine.result.0 c.args.salts c.open_disk-engine.result.1 c.in-Ok.found (state_of c.close-disk.result.0) is c.close-disk.ensures.disk c.in-Ok.ensures
    (λ past files are size fits count may. c.open_disk-engine.ensures.opens past files are size fits (count ∙ sym c.close-disk.ensures.begun) may)
