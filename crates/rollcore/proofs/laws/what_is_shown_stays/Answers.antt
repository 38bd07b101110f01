use Rattle.rollcore.proofs.Facts.{alone_looks, alone_same, alone_syncs, crash_shows, journal_log}
use Rattle.rollcore.proofs.laws.what_is_shown_stays.Goals as goal

pub returns-clause-sync : goal.returns-clause-sync
returns-clause-sync c size d f called old new sound alone synced = alone_syncs journal_log size d f called old new sound synced alone

pub returns-clause-length : goal.returns-clause-length
returns-clause-length c size d called old new sound alone looked = alone_looks journal_log size d 0 called old new looked alone

pub returns-clause-read : goal.returns-clause-read
returns-clause-read c size d end called old new sound alone looked = alone_looks journal_log size d end called old new looked alone

pub returns-clause-same : goal.returns-clause-same
returns-clause-same c size d old new sound alone same = alone_same journal_log size d old new sound same alone

pub returns-clause-crash : goal.returns-clause-crash
returns-clause-crash c size d db log old new sound alone crashed whole = crash_shows journal_log size d db log old new sound alone crashed whole
