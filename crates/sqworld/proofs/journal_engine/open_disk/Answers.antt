use Rattle.sqworld.proofs.Facts.{given_up, opened, state_of}
use Rattle.sqworld.proofs.journal_engine.open_disk.Goals as goal

pub returns-in-Ok : goal.returns-in-Ok
returns-in-Ok c past found are size fits = opened past found (state_of c.args.disk) c.in-Ok.roll ((c.in-Ok.ensures.holds tt).step past found are size fits)

pub returns-in-Err : goal.returns-in-Err
returns-in-Err c past found are size fits =
    given_up past found c.in-Err.refused.error c.number.result (state_of c.args.disk) c.in-Err.refused.disk c.number.ensures ((c.in-Err.ensures.holds tt).step past found are size fits)
