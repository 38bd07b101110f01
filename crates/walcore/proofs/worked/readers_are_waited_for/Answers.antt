use Rattle.walcore.proofs.Facts.{played_commits_refused, played_two_readers, played_waits}
use Rattle.walcore.proofs.worked.readers_are_waited_for.Goals as goal

pub returns-clause-waits : goal.returns-clause-waits
returns-clause-waits c = played_waits

pub returns-clause-two_readers : goal.returns-clause-two_readers
returns-clause-two_readers c = played_two_readers

pub returns-clause-commits_refused : goal.returns-clause-commits_refused
returns-clause-commits_refused c = played_commits_refused
