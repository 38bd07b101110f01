use Rattle.crashdisk.proofs.Words.{rules}
use Rattle.crashdisk.proofs.model.ModelDiskDisk.write_at.Goals as goal

pub returns-in-Db-clause-state : goal.returns-in-Db-clause-state
returns-in-Db-clause-state c = rw c.in-Db.is (λ word. record {
  elsewhere = search rules;
  kept = search rules;
  handed = search rules;
  are_bytes = λ i. search (rules, c.type_inv.bytes i);
  settings = search rules;
  heeds = search rules;
  within = c.write_held.ensures.answered.within;
  file = c.write_held.ensures.answered.changed;
})

pub returns-in-Db-clause-picked : goal.returns-in-Db-clause-picked
returns-in-Db-clause-picked c = rw c.in-Db.is c.write_held.ensures.answered.picked

pub returns-in-Log-clause-state : goal.returns-in-Log-clause-state
returns-in-Log-clause-state c = rw c.in-Log.is (λ word. record {
  elsewhere = search rules;
  kept = search rules;
  handed = search rules;
  are_bytes = λ i. search (rules, c.type_inv.bytes i);
  settings = search rules;
  heeds = search rules;
  within = c.write_log.ensures.answered.within;
  file = c.write_log.ensures.answered.changed;
})

pub returns-in-Log-clause-picked : goal.returns-in-Log-clause-picked
returns-in-Log-clause-picked c = rw c.in-Log.is c.write_log.ensures.answered.picked
