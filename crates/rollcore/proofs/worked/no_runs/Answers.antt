use Rattle.rollcore.proofs.Facts.{no_half, no_lost_commit}
use Rattle.rollcore.proofs.worked.no_runs.Goals as goal

pub returns-clause-lost_commit : goal.returns-clause-lost_commit
returns-clause-lost_commit c = no_lost_commit

pub returns-clause-half : goal.returns-clause-half
returns-clause-half c = no_half
