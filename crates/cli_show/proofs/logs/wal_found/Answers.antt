use Rattle.cli_show.proofs.logs.wal_found.Goals as goal

pub returns-in-Ok-clause-found : goal.returns-in-Ok-clause-found
returns-in-Ok-clause-found c = λ limits wal journal cold took long. (cold, took, c.in-Ok.ensures.commits limits.frames wal took, long)
