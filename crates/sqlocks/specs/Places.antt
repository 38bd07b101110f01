-- The places of the plans: what is done at each, and where an answer leads (own).
use Rattle.std.specs.Prelude.{Bool, true, false, List, fold}
use Rattle.sqlocks.specs.declared.plan.Want.{Want}
use Rattle.sqlocks.specs.declared.plan.Want.TheVariants.{Read, Recover}
use Rattle.sqlocks.specs.declared.plan.Target.TheVariants.{Database, Index}
use Rattle.sqlocks.specs.declared.plan.Lock.{Lock}
use Rattle.sqlocks.specs.declared.plan.Lock.TheVariants as locks
use Rattle.sqlocks.specs.declared.plan.Reason.TheVariants as reasons
use Rattle.sqlocks.specs.declared.plan.Step.{Step}
use Rattle.sqlocks.specs.declared.plan.Step.TheVariants as steps
use Rattle.sqlocks.specs.declared.plan.Answer.{Answer}
use Rattle.sqlocks.specs.declared.plan.Answer.TheVariants.{Given, Refused, Missing, Unsupported}
use Rattle.sqlocks.specs.declared.places.Hold.{Hold}
use Rattle.sqlocks.specs.declared.places.Hold.TheVariants as holds
use Rattle.sqlocks.specs.declared.places.Kept.{Kept}
use Rattle.sqlocks.specs.declared.places.Kept.TheVariants as kept
use Rattle.sqlocks.specs.declared.places.Then.{Then}
use Rattle.sqlocks.specs.declared.places.Then.TheVariants as thens
use Rattle.sqlocks.specs.declared.places.Place.{Place}
use Rattle.sqlocks.specs.declared.places.Place.TheVariants as places

abbrev pub last_of : Hold → Lock
last_of holds.Pending = locks.Pending
last_of holds.Shared = locks.Shared
last_of holds.Restarts = locks.Restarts
last_of holds.Checkpoints = locks.Checkpoints
last_of holds.Writers = locks.Writers
last_of holds.Exclusive = locks.Exclusive
last_of holds.WholeIndex = locks.WholeIndex
last_of holds.Alone = locks.Alone

-- what is done at a place
abbrev pub step_at : Place → Step
step_at (places.OpenFile want) = steps.Open Database
step_at places.TakePending = steps.Take locks.Pending
step_at places.TakeShared = steps.Take locks.Shared
step_at places.GivePending = steps.Give locks.Pending
step_at places.TakeExclusive = steps.Take locks.Exclusive
step_at (places.Compare want) = steps.Compare
step_at places.LookForFolder = steps.LookForFolder
step_at (places.OpenIndex want) = steps.Open Index
step_at (places.TakeRestarts asks) = steps.Take locks.Restarts
step_at (places.TakeCheckpoints asks) = steps.Take locks.Checkpoints
step_at places.Ask = steps.Take locks.Connections
step_at places.EndAsking = steps.Give locks.Connections
step_at places.Look = steps.Look
step_at (places.TakeWriters asks) = steps.Take locks.Writers
step_at places.AskAgain = steps.Take locks.Connections
step_at places.EndAskingAgain = steps.Give locks.Connections
step_at places.LookAgain = steps.Look
step_at places.GiveWriters = steps.Give locks.Writers
step_at places.TakeWhole = steps.Take locks.WholeIndex
step_at places.LookAtJournal = steps.LookAtJournal
step_at places.AskReserved = steps.AskReserved
step_at places.CompareJournal = steps.CompareJournal
step_at places.TakeAlone = steps.Take locks.Alone
step_at (places.Go keeps) = steps.Go
step_at (places.Back hold then) = steps.Give (last_of hold)
step_at (places.Wait want) = steps.Wait
step_at (places.NoFile want) = steps.GoUnlocked
step_at places.Unlocked = steps.GoUnlocked
step_at (places.InUse want) = steps.GiveUp reasons.InUse
step_at places.NoLocks = steps.GiveUp reasons.NoLocks
step_at places.Failed = steps.GiveUp reasons.Failed
step_at (places.Over want) = steps.End

-- behind the opening of FILE, a plan's first lock, another lock, the comparison, the opening of FILE-shm, the question
-- whether a connection is live or about to write, a look at the index or the journal, and a wait
abbrev pub after_file : Answer → Want → Place
after_file Given Read = places.TakePending
after_file Given Recover = places.TakeExclusive
after_file Refused want = places.NoFile want
after_file Missing want = places.NoFile want
after_file Unsupported want = places.NoFile want

abbrev pub after_first : Answer → Want → Place
after_first Given Read = places.TakeShared
after_first Given Recover = places.Compare Recover
after_first Unsupported Read = places.Unlocked
after_first Unsupported Recover = places.NoLocks
after_first Refused want = places.Wait want
after_first Missing want = places.Wait want

abbrev pub after_lock : Answer → Place → Hold → Place
after_lock Given place hold = place
after_lock Unsupported place hold = places.Back hold thens.NoLocks
after_lock Refused place hold = places.Back hold thens.Wait
after_lock Missing place hold = places.Back hold thens.Wait

abbrev pub first_of : Want → Hold
first_of Read = holds.Shared
first_of Recover = holds.Exclusive

abbrev pub hold_of : Kept → Hold
hold_of (kept.File want) = first_of want
hold_of kept.Front = holds.Checkpoints
hold_of kept.Log = holds.Writers
hold_of kept.Whole = holds.WholeIndex
hold_of kept.Alone = holds.Alone

abbrev pub compared : Answer → Want → Place
compared Given Read = places.OpenIndex Read
compared Given Recover = places.LookForFolder
compared Refused want = places.Back (first_of want) thens.Wait
compared Missing want = places.Back (first_of want) thens.Wait
compared Unsupported want = places.Back (first_of want) thens.Wait

abbrev pub after_index : Answer → Want → Place
after_index Given Read = places.TakeRestarts true
after_index Refused Read = places.TakeRestarts false
after_index Given Recover = places.TakeWhole
after_index Refused Recover = places.Back holds.Exclusive thens.Failed
after_index Missing Read = places.LookAtJournal
after_index Missing Recover = places.Go (kept.File Recover)
after_index Unsupported want = places.Back (first_of want) thens.NoLocks

abbrev pub live_asked : Answer → (not live : Place) → Hold → Place
live_asked Given not live hold = not
live_asked Unsupported not live hold = places.Back hold thens.NoLocks
live_asked Refused not live hold = live
live_asked Missing not live hold = live

abbrev pub looked : Answer → (named unnamed : Place) → Place
looked Given named unnamed = named
looked Refused named unnamed = unnamed
looked Missing named unnamed = unnamed
looked Unsupported named unnamed = unnamed

abbrev pub waited : Answer → Want → Place
waited Given want = places.OpenFile want
waited Refused want = places.InUse want
waited Missing want = places.InUse want
waited Unsupported want = places.InUse want

-- once nothing is held, and once the lock that was taken last is given back
abbrev pub behind : Then → Want → Place
behind thens.Wait want = places.Wait want
behind thens.NoLocks Read = places.Unlocked
behind thens.NoLocks Recover = places.NoLocks
behind thens.Failed Read = places.Over Read
behind thens.Failed Recover = places.Failed
behind thens.End want = places.Over want

abbrev pub given_back : Hold → Then → Place
given_back holds.Pending then = behind then Read
given_back holds.Shared then = behind then Read
given_back holds.Restarts then = places.Back holds.Shared then
given_back holds.Checkpoints then = places.Back holds.Restarts then
given_back holds.Writers then = places.Back holds.Checkpoints then
given_back holds.Exclusive then = behind then Recover
given_back holds.WholeIndex then = places.Back holds.Exclusive then
given_back holds.Alone then = places.Back holds.Shared then

-- where an answer leads
abbrev pub next : Place → Answer → Place
next (places.OpenFile want) answer = after_file answer want
next places.TakePending answer = after_first answer Read
next places.TakeShared answer = after_lock answer places.GivePending holds.Pending
next places.GivePending answer = places.Compare Read
next places.TakeExclusive answer = after_first answer Recover
next (places.Compare want) answer = compared answer want
next places.LookForFolder answer = after_lock answer (places.OpenIndex Recover) holds.Exclusive
next (places.OpenIndex want) answer = after_index answer want
next (places.TakeRestarts asks) answer = after_lock answer (places.TakeCheckpoints asks) holds.Shared
next (places.TakeCheckpoints true) answer = after_lock answer places.Ask holds.Restarts
next (places.TakeCheckpoints false) answer = after_lock answer (places.TakeWriters false) holds.Restarts
next places.Ask answer = live_asked answer places.EndAsking places.Look holds.Checkpoints
next places.EndAsking answer = places.TakeWriters true
next places.Look answer = looked answer (places.Go kept.Front) (places.TakeWriters true)
next (places.TakeWriters true) answer = after_lock answer places.AskAgain holds.Checkpoints
next (places.TakeWriters false) answer = after_lock answer (places.Go kept.Log) holds.Checkpoints
next places.AskAgain answer = live_asked answer places.EndAskingAgain places.LookAgain holds.Writers
next places.EndAskingAgain answer = places.Go kept.Log
next places.LookAgain answer = looked answer places.GiveWriters (places.Go kept.Log)
next places.GiveWriters answer = places.Go kept.Front
next places.TakeWhole answer = after_lock answer (places.Go kept.Whole) holds.Exclusive
next places.LookAtJournal answer = looked answer places.AskReserved places.TakeAlone
next places.AskReserved answer = live_asked answer places.CompareJournal places.TakeAlone holds.Shared
next places.CompareJournal answer = looked answer (places.Go (kept.File Read)) places.TakeAlone
next places.TakeAlone answer = after_lock answer (places.Go kept.Alone) holds.Shared
next (places.Go keeps) answer = places.Back (hold_of keeps) thens.End
next (places.Back hold then) answer = given_back hold then
next (places.Wait want) answer = waited answer want
next (places.NoFile want) answer = places.Over want
next places.Unlocked answer = places.Over Read
next (places.InUse want) answer = places.Over want
next places.NoLocks answer = places.Over Recover
next places.Failed answer = places.Over Recover
next (places.Over want) answer = places.Over want
