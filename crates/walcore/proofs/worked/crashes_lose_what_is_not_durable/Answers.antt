use Rattle.walcore.proofs.Facts.{played_forgotten, played_lost, played_lost_for_good, played_stopped, played_sync_failed, played_synced}
use Rattle.walcore.proofs.worked.crashes_lose_what_is_not_durable.Goals as goal

pub returns-clause-synced : goal.returns-clause-synced
returns-clause-synced c = played_synced

pub returns-clause-lost : goal.returns-clause-lost
returns-clause-lost c = played_lost

pub returns-clause-lost_for_good : goal.returns-clause-lost_for_good
returns-clause-lost_for_good c = played_lost_for_good

pub returns-clause-stopped : goal.returns-clause-stopped
returns-clause-stopped c = played_stopped

pub returns-clause-sync_failed : goal.returns-clause-sync_failed
returns-clause-sync_failed c = played_sync_failed

pub returns-clause-forgotten : goal.returns-clause-forgotten
returns-clause-forgotten c = played_forgotten
