use Rattle.sqworld.proofs.Facts.{opened_session, state_of}
use Rattle.sqworld.proofs.serve.AnswersToEvents.{given_up}
use Rattle.sqworld.proofs.wal_engine.open_disk.Goals as goal

pub returns-in-Ok-clause-opens : goal.returns-in-Ok-clause-opens
returns-in-Ok-clause-opens c past found are size fits count may =
    opened_session past c.args.salts found (state_of c.args.disk) c.in-Ok.wal c.new-session.result c.args.begun c.new-session.ensures.wal c.new-session.ensures.first c.new-session.ensures.slots count
    ((c.in-Ok.ensures.holds tt).step past found are size fits may.0 may.1)

pub returns-in-Err-clause-opens : goal.returns-in-Err-clause-opens
returns-in-Err-clause-opens c past found are size fits count may =
    given_up past c.args.salts found c.in-Err.refused.error c.number.result (state_of c.args.disk) c.in-Err.refused.disk c.args.begun c.number.ensures count
    ((c.in-Err.ensures.holds tt).step past found are size fits may.0 may.1)
