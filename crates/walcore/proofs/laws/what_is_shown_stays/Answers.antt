use Rattle.walcore.proofs.Facts.{alone_looks, alone_same, alone_syncs, crash_shows, wal_log}
use Rattle.walcore.proofs.laws.what_is_shown_stays.Goals as goal

pub returns-clause-len : goal.returns-clause-len
returns-clause-len c end result old new looked size d alone = alone_looks wal_log size d end result old new looked alone

pub returns-clause-read : goal.returns-clause-read
returns-clause-read c end result old new looked size d alone = alone_looks wal_log size d end result old new looked alone

pub returns-clause-sync : goal.returns-clause-sync
returns-clause-sync c file result old new sound synced size d alone = alone_syncs wal_log size d file result old new sound synced alone

pub returns-clause-same : goal.returns-clause-same
returns-clause-same c old new sound same size d alone = alone_same wal_log size d old new sound same alone

pub returns-clause-crash : goal.returns-clause-crash
returns-clause-crash c db log old new sound crashed whole size d alone = crash_shows wal_log size d db log old new sound alone crashed whole
