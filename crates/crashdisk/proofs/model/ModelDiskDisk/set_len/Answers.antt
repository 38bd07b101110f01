use Rattle.crashdisk.proofs.Words.{rules}
use Rattle.crashdisk.proofs.model.ModelDiskDisk.set_len.Goals as goal

pub returns-in-Db-clause-state : goal.returns-in-Db-clause-state
returns-in-Db-clause-state c = rw c.in-Db.is (search rules)

pub returns-in-Db-clause-picked : goal.returns-in-Db-clause-picked
returns-in-Db-clause-picked c = rw c.in-Db.is c.cut_held.ensures.answered.picked

pub returns-in-Log-clause-state : goal.returns-in-Log-clause-state
returns-in-Log-clause-state c = rw c.in-Log.is (search rules)

pub returns-in-Log-clause-picked : goal.returns-in-Log-clause-picked
returns-in-Log-clause-picked c = rw c.in-Log.is c.cut_log.ensures.answered.picked
