use Rattle.sqlocks.proofs.told.tells_all.Goals as goal

pub returns-in-Read-None : goal.returns-in-Read-None
returns-in-Read-None c = rw (c.in-Read-None.is-0, c.in-Read-None.is-1) c.tells.ensures

pub returns-in-Recover-None : goal.returns-in-Recover-None
returns-in-Recover-None c = rw (c.in-Recover-None.is-0, c.in-Recover-None.is-1) c.tells-in-Recover-None.ensures

pub returns-in-Recover-Some : goal.returns-in-Recover-Some
returns-in-Recover-Some c = rw (c.in-Recover-Some.is-0, c.in-Recover-Some.is-1) c.tell_both-in-Recover-Some.ensures
