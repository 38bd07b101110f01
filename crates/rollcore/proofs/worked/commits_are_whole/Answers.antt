use Rattle.rollcore.proofs.Facts.{played_calls_refused, played_committed, played_stopped, played_stopped_late}
use Rattle.rollcore.proofs.worked.commits_are_whole.Goals as goal

pub returns-clause-committed : goal.returns-clause-committed
returns-clause-committed c = played_committed

pub returns-clause-stopped : goal.returns-clause-stopped
returns-clause-stopped c = played_stopped

pub returns-clause-stopped_late : goal.returns-clause-stopped_late
returns-clause-stopped_late c = played_stopped_late

pub returns-clause-calls_refused : goal.returns-clause-calls_refused
returns-clause-calls_refused c = played_calls_refused
