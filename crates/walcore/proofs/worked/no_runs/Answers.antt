use Rattle.walcore.proofs.Facts.{no_early_complete, no_lost_sync, no_other_page, no_return, no_skipped}
use Rattle.walcore.proofs.worked.no_runs.Goals as goal

pub returns-clause-lost_sync : goal.returns-clause-lost_sync
returns-clause-lost_sync c = no_lost_sync

pub returns-clause-skipped : goal.returns-clause-skipped
returns-clause-skipped c = no_skipped

pub returns-clause-returned : goal.returns-clause-returned
returns-clause-returned c = no_return

pub returns-clause-other_page : goal.returns-clause-other_page
returns-clause-other_page c = no_other_page

pub returns-clause-early_complete : goal.returns-clause-early_complete
returns-clause-early_complete c = no_early_complete
