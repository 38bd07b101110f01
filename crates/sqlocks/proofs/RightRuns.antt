-- The run of a plan, by its places.
use Rattle.std.proofs.Common.{◌≡◌, Bool, true, false, List, [], ◌∷◌, fold, refl, sym, ◌∙◌, ap, inl, inr, subst}
use Rattle.sqlocks.specs.declared.plan.Want.{Want}
use Rattle.sqlocks.specs.declared.plan.Want.TheVariants.{Read, Recover}
use Rattle.sqlocks.specs.declared.plan.Lock.{Lock}
use Rattle.sqlocks.specs.declared.plan.Lock.TheVariants as locks
use Rattle.sqlocks.specs.declared.plan.Step.{Step}
use Rattle.sqlocks.specs.declared.plan.Step.TheVariants.{Take}
use Rattle.sqlocks.specs.declared.plan.Answer.{Answer}
use Rattle.sqlocks.specs.declared.plan.Answer.TheVariants.{Given, Refused, Missing, Unsupported}
use Rattle.sqlocks.specs.declared.places.Hold.{Hold}
use Rattle.sqlocks.specs.declared.places.Hold.TheVariants as holds
use Rattle.sqlocks.specs.declared.places.Kept.{Kept}
use Rattle.sqlocks.specs.declared.places.Kept.TheVariants as kept
use Rattle.sqlocks.specs.declared.places.Then.{Then}
use Rattle.sqlocks.specs.declared.places.Then.TheVariants as thens
use Rattle.sqlocks.specs.declared.places.Place.{Place}
use Rattle.sqlocks.specs.declared.places.Place.TheVariants as places
use Rattle.sqlocks.specs.Places.{step_at, next, after_file, after_first, after_lock, compared, after_index, live_asked, looked, behind, given_back, waited, first_of, hold_of}
use Rattle.sqlocks.specs.Runs.{Event, held_behind, held_after, Learnt, NoFile, NoIndex, NoLocks, NoFolder, Front, Hot, Free, Current, NoneCurrent, Nothing, learnt_with, learnt_behind, learnt_after, own, snapshot, MayBeAsked, MayAsk, IsRun, log_from, log_of}

-- what a plan is for, what is held, and what was learnt
record State : Type 0 where
  want : Want
  held : List Lock
  learnt : Learnt

abbrev state : Want → List Lock → Learnt → State
state want held learnt = record { want = want; held = held; learnt = learnt }

abbrev behind_step : Step → Answer → State → State
behind_step step answer s = state s.want (held_behind step answer s.held) (learnt_behind step answer s.learnt)

abbrev held_of : Hold → List Lock
held_of holds.Pending = locks.Pending ∷ []
held_of holds.Shared = locks.Shared ∷ []
held_of holds.Restarts = locks.Restarts ∷ locks.Shared ∷ []
held_of holds.Checkpoints = snapshot
held_of holds.Writers = locks.Writers ∷ snapshot
held_of holds.Exclusive = locks.Exclusive ∷ []
held_of holds.WholeIndex = locks.WholeIndex ∷ locks.Exclusive ∷ []
held_of holds.Alone = locks.Alone ∷ locks.Shared ∷ []

abbrev want_of : Hold → Want
want_of holds.Pending = Read
want_of holds.Shared = Read
want_of holds.Restarts = Read
want_of holds.Checkpoints = Read
want_of holds.Writers = Read
want_of holds.Exclusive = Recover
want_of holds.WholeIndex = Recover
want_of holds.Alone = Read

abbrev learnt_of : Then → Learnt
learnt_of thens.NoLocks = NoLocks
learnt_of thens.Wait = Nothing
learnt_of thens.Failed = Nothing
learnt_of thens.End = Nothing

abbrev kept_state : Kept → State
kept_state (kept.File Read) = state Read (own Read) Current
kept_state (kept.File Recover) = state Recover (own Recover) NoIndex
kept_state kept.Alone = state Read (locks.Alone ∷ locks.Shared ∷ []) NoneCurrent
kept_state kept.Front = state Read snapshot Front
kept_state kept.Log = state Read (locks.Writers ∷ snapshot) Nothing
kept_state kept.Whole = state Recover (locks.WholeIndex ∷ locks.Exclusive ∷ []) Nothing

-- the same where a plan stands at a place
abbrev state_at : Place → State
state_at (places.OpenFile want) = state want [] Nothing
state_at places.TakePending = state Read [] Nothing
state_at places.TakeShared = state Read (locks.Pending ∷ []) Nothing
state_at places.GivePending = state Read (locks.Shared ∷ locks.Pending ∷ []) Nothing
state_at places.TakeExclusive = state Recover [] Nothing
state_at (places.Compare want) = state want (own want) Nothing
state_at places.LookForFolder = state Recover (own Recover) Nothing
state_at (places.OpenIndex Read) = state Read (own Read) Nothing
state_at (places.OpenIndex Recover) = state Recover (own Recover) NoFolder
state_at (places.TakeRestarts asks) = state Read (locks.Shared ∷ []) Nothing
state_at (places.TakeCheckpoints asks) = state Read (locks.Restarts ∷ locks.Shared ∷ []) Nothing
state_at places.Ask = state Read snapshot Nothing
state_at places.EndAsking = state Read (locks.Connections ∷ snapshot) Nothing
state_at places.Look = state Read snapshot Nothing
state_at (places.TakeWriters asks) = state Read snapshot Nothing
state_at places.AskAgain = state Read (locks.Writers ∷ snapshot) Nothing
state_at places.EndAskingAgain = state Read (locks.Connections ∷ locks.Writers ∷ snapshot) Nothing
state_at places.LookAgain = state Read (locks.Writers ∷ snapshot) Nothing
state_at places.GiveWriters = state Read (locks.Writers ∷ snapshot) Front
state_at places.TakeWhole = state Recover (locks.Exclusive ∷ []) Nothing
state_at places.LookAtJournal = state Read (locks.Shared ∷ []) NoIndex
state_at places.AskReserved = state Read (locks.Shared ∷ []) Hot
state_at places.CompareJournal = state Read (locks.Shared ∷ []) Free
state_at places.TakeAlone = state Read (locks.Shared ∷ []) NoneCurrent
state_at (places.Go keeps) = kept_state keeps
state_at (places.Back hold then) = state (want_of hold) (held_of hold) (learnt_of then)
state_at (places.Wait want) = state want [] Nothing
state_at (places.NoFile want) = state want [] NoFile
state_at places.Unlocked = state Read [] NoLocks
state_at (places.InUse want) = state want [] Nothing
state_at places.NoLocks = state Recover [] NoLocks
state_at places.Failed = state Recover [] Nothing
state_at (places.Over want) = state want [] Nothing

-- the step at a place may be asked there
may_at : (place : Place) → MayBeAsked (state_at place).want (state_at place).held (state_at place).learnt (step_at place)
may_at (places.OpenFile want) = refl
may_at places.TakePending = refl
may_at places.TakeShared = refl
may_at places.GivePending = inr (refl, refl)
may_at places.TakeExclusive = refl
may_at (places.Compare want) = refl
may_at places.LookForFolder = refl
may_at (places.OpenIndex Read) = (refl, tt)
may_at (places.OpenIndex Recover) = (refl, refl)
may_at (places.TakeRestarts asks) = refl
may_at (places.TakeCheckpoints asks) = refl
may_at places.Ask = inl refl
may_at places.EndAsking = inl (snapshot, refl)
may_at places.Look = inl refl
may_at (places.TakeWriters asks) = refl
may_at places.AskAgain = inr refl
may_at places.EndAskingAgain = inl (locks.Writers ∷ snapshot, refl)
may_at places.LookAgain = inr refl
may_at places.GiveWriters = inl (snapshot, refl)
may_at places.TakeWhole = refl
may_at places.LookAtJournal = (refl, refl)
may_at places.AskReserved = (refl, refl)
may_at places.CompareJournal = (refl, refl)
may_at places.TakeAlone = (refl, refl)
may_at (places.Go (kept.File Read)) = refl
may_at (places.Go (kept.File Recover)) = refl
may_at (places.Go kept.Front) = refl
may_at (places.Go kept.Log) = refl
may_at (places.Go kept.Whole) = refl
may_at (places.Go kept.Alone) = refl
may_at (places.Back holds.Pending then) = inl ([], refl)
may_at (places.Back holds.Shared then) = inl ([], refl)
may_at (places.Back holds.Restarts then) = inl (locks.Shared ∷ [], refl)
may_at (places.Back holds.Checkpoints then) = inl (locks.Restarts ∷ locks.Shared ∷ [], refl)
may_at (places.Back holds.Writers then) = inl (snapshot, refl)
may_at (places.Back holds.Exclusive then) = inl ([], refl)
may_at (places.Back holds.WholeIndex then) = inl (locks.Exclusive ∷ [], refl)
may_at (places.Back holds.Alone then) = inl (locks.Shared ∷ [], refl)
may_at (places.Wait want) = refl
may_at (places.NoFile want) = (refl, tt)
may_at places.Unlocked = (refl, refl)
may_at (places.InUse want) = refl
may_at places.NoLocks = refl
may_at places.Failed = refl
may_at (places.Over want) = refl

-- an answer leads to a place of what is held and learnt behind it
abbrev Leads : Place → Answer → (from : State) → (to : Place) → Type 0
Leads place answer from to = behind_step (step_at place) answer from ≡ state_at to

leads-lock : (lock : Lock) (hold : Hold) (place : Place) (answer : Answer) → state_at place ≡ state (want_of hold) (lock ∷ held_of hold) (learnt_with lock Nothing)
    → behind_step (Take lock) answer (state (want_of hold) (held_of hold) Nothing) ≡ state_at (after_lock answer place hold)
leads-lock lock hold place Given e = sym e
leads-lock lock hold place Refused e = refl
leads-lock lock hold place Missing e = refl
leads-lock lock hold place Unsupported e = refl

leads-live : (hold : Hold) (not live : Place) (answer : Answer) → state_at not ≡ state (want_of hold) (locks.Connections ∷ held_of hold) Nothing
    → state_at live ≡ state (want_of hold) (held_of hold) Nothing
    → behind_step (Take locks.Connections) answer (state (want_of hold) (held_of hold) Nothing) ≡ state_at (live_asked answer not live hold)
leads-live hold not live Given e f = sym e
leads-live hold not live Refused e f = sym f
leads-live hold not live Missing e f = sym f
leads-live hold not live Unsupported e f = refl

leads-file : (answer : Answer) (want : Want) → Leads (places.OpenFile want) answer (state want [] Nothing) (after_file answer want)
leads-file Given Read = refl
leads-file Given Recover = refl
leads-file Refused want = refl
leads-file Missing want = refl
leads-file Unsupported want = refl

leads-pending : (answer : Answer) → Leads places.TakePending answer (state Read [] Nothing) (after_first answer Read)
leads-pending Given = refl
leads-pending Refused = refl
leads-pending Missing = refl
leads-pending Unsupported = refl

leads-exclusive : (answer : Answer) → Leads places.TakeExclusive answer (state Recover [] Nothing) (after_first answer Recover)
leads-exclusive Given = refl
leads-exclusive Refused = refl
leads-exclusive Missing = refl
leads-exclusive Unsupported = refl

-- giving back the first lock, whatever follows
state_of_first : (want : Want) (then : Then) → state_at (places.Back (first_of want) then) ≡ state want (own want) (learnt_of then)
state_of_first Read then = refl
state_of_first Recover then = refl

leads-compared : (answer : Answer) (want : Want) → Leads (places.Compare want) answer (state want (own want) Nothing) (compared answer want)
leads-compared Given Read = refl
leads-compared Given Recover = refl
leads-compared Refused want = sym (state_of_first want thens.Wait)
leads-compared Missing want = sym (state_of_first want thens.Wait)
leads-compared Unsupported want = sym (state_of_first want thens.Wait)

leads-folder : (answer : Answer) → Leads places.LookForFolder answer (state Recover (own Recover) Nothing) (after_lock answer (places.OpenIndex Recover) holds.Exclusive)
leads-folder Given = refl
leads-folder Refused = refl
leads-folder Missing = refl
leads-folder Unsupported = refl

leads-index : (answer : Answer) (want : Want) → Leads (places.OpenIndex want) answer (state_at (places.OpenIndex want)) (after_index answer want)
leads-index Given Read = refl
leads-index Given Recover = refl
leads-index Refused Read = refl
leads-index Refused Recover = refl
leads-index Missing Read = refl
leads-index Missing Recover = refl
leads-index Unsupported Read = refl
leads-index Unsupported Recover = refl

leads-look : (answer : Answer) → Leads places.Look answer (state Read snapshot Nothing) (looked answer (places.Go kept.Front) (places.TakeWriters true))
leads-look Given = refl
leads-look Refused = refl
leads-look Missing = refl
leads-look Unsupported = refl

leads-look_again : (answer : Answer) → Leads places.LookAgain answer (state Read (locks.Writers ∷ snapshot) Nothing) (looked answer places.GiveWriters (places.Go kept.Log))
leads-look_again Given = refl
leads-look_again Refused = refl
leads-look_again Missing = refl
leads-look_again Unsupported = refl

leads-hot : (answer : Answer) → Leads places.LookAtJournal answer (state Read (locks.Shared ∷ []) NoIndex) (looked answer places.AskReserved places.TakeAlone)
leads-hot Given = refl
leads-hot Refused = refl
leads-hot Missing = refl
leads-hot Unsupported = refl

leads-reserved : (answer : Answer) → Leads places.AskReserved answer (state Read (locks.Shared ∷ []) Hot) (live_asked answer places.CompareJournal places.TakeAlone holds.Shared)
leads-reserved Given = refl
leads-reserved Refused = refl
leads-reserved Missing = refl
leads-reserved Unsupported = refl

leads-same : (answer : Answer) → Leads places.CompareJournal answer (state Read (locks.Shared ∷ []) Free) (looked answer (places.Go (kept.File Read)) places.TakeAlone)
leads-same Given = refl
leads-same Refused = refl
leads-same Missing = refl
leads-same Unsupported = refl

leads-alone : (answer : Answer) → Leads places.TakeAlone answer (state Read (locks.Shared ∷ []) NoneCurrent) (after_lock answer (places.Go kept.Alone) holds.Shared)
leads-alone Given = refl
leads-alone Refused = refl
leads-alone Missing = refl
leads-alone Unsupported = refl

leads-waited : (answer : Answer) (want : Want) → Leads (places.Wait want) answer (state want [] Nothing) (waited answer want)
leads-waited Given want = refl
leads-waited Refused want = refl
leads-waited Missing want = refl
leads-waited Unsupported want = refl

leads-kept : (keeps : Kept) (answer : Answer) → Leads (places.Go keeps) answer (kept_state keeps) (places.Back (hold_of keeps) thens.End)
leads-kept (kept.File Read) answer = refl
leads-kept (kept.File Recover) answer = refl
leads-kept kept.Front answer = refl
leads-kept kept.Log answer = refl
leads-kept kept.Whole answer = refl
leads-kept kept.Alone answer = refl

state_behind : (then : Then) (want : Want) → state_at (behind then want) ≡ state want [] (learnt_of then)
state_behind thens.Wait want = refl
state_behind thens.NoLocks Read = refl
state_behind thens.NoLocks Recover = refl
state_behind thens.Failed Read = refl
state_behind thens.Failed Recover = refl
state_behind thens.End want = refl

leads-back : (hold : Hold) (then : Then) (answer : Answer) → Leads (places.Back hold then) answer (state_at (places.Back hold then)) (given_back hold then)
leads-back holds.Pending then answer = sym (state_behind then Read)
leads-back holds.Shared then answer = sym (state_behind then Read)
leads-back holds.Restarts then answer = refl
leads-back holds.Checkpoints then answer = refl
leads-back holds.Writers then answer = refl
leads-back holds.Exclusive then answer = sym (state_behind then Recover)
leads-back holds.WholeIndex then answer = refl
leads-back holds.Alone then answer = refl

leads : (place : Place) (answer : Answer) → Leads place answer (state_at place) (next place answer)
leads (places.OpenFile want) answer = leads-file answer want
leads places.TakePending answer = leads-pending answer
leads places.TakeShared answer = leads-lock locks.Shared holds.Pending places.GivePending answer refl
leads places.GivePending answer = refl
leads places.TakeExclusive answer = leads-exclusive answer
leads (places.Compare want) answer = leads-compared answer want
leads places.LookForFolder answer = leads-folder answer
leads (places.OpenIndex want) answer = leads-index answer want
leads (places.TakeRestarts asks) answer = leads-lock locks.Restarts holds.Shared (places.TakeCheckpoints asks) answer refl
leads (places.TakeCheckpoints true) answer = leads-lock locks.Checkpoints holds.Restarts places.Ask answer refl
leads (places.TakeCheckpoints false) answer = leads-lock locks.Checkpoints holds.Restarts (places.TakeWriters false) answer refl
leads places.Ask answer = leads-live holds.Checkpoints places.EndAsking places.Look answer refl refl
leads places.EndAsking answer = refl
leads places.Look answer = leads-look answer
leads (places.TakeWriters true) answer = leads-lock locks.Writers holds.Checkpoints places.AskAgain answer refl
leads (places.TakeWriters false) answer = leads-lock locks.Writers holds.Checkpoints (places.Go kept.Log) answer refl
leads places.AskAgain answer = leads-live holds.Writers places.EndAskingAgain places.LookAgain answer refl refl
leads places.EndAskingAgain answer = refl
leads places.LookAgain answer = leads-look_again answer
leads places.GiveWriters answer = refl
leads places.TakeWhole answer = leads-lock locks.WholeIndex holds.Exclusive (places.Go kept.Whole) answer refl
leads places.LookAtJournal answer = leads-hot answer
leads places.AskReserved answer = leads-reserved answer
leads places.CompareJournal answer = leads-same answer
leads places.TakeAlone answer = leads-alone answer
leads (places.Go keeps) answer = leads-kept keeps answer
leads (places.Back hold then) answer = leads-back hold then answer
leads (places.Wait want) answer = leads-waited answer want
leads (places.NoFile want) answer = refl
leads places.Unlocked answer = refl
leads (places.InUse want) answer = refl
leads places.NoLocks answer = refl
leads places.Failed answer = refl
leads (places.Over want) answer = refl

-- a run that came to a place
record ComesTo (want : Want) (log : List Event) (place : Place) : Type 0 where
  is : state want (held_after log) (learnt_after log) ≡ state_at place
  run : IsRun want log

abbrev MayBe : Step → State → Type 0
MayBe step s = MayBeAsked s.want s.held s.learnt step

may_next : (want : Want) (log : List Event) (place : Place) → ComesTo want log place → MayAsk want log (step_at place)
may_next want log place c = subst (MayBe (step_at place)) (sym c.is) (may_at place)

comes_behind : (want : Want) (log : List Event) (place : Place) (answer : Answer) → ComesTo want log place
    → ComesTo want (record { step = step_at place; answer = answer } ∷ log) (next place answer)
comes_behind want log place answer c = record {
  is = ap (behind_step (step_at place) answer) c.is ∙ leads place answer;
  run = (may_next want log place c, c.run);
}

comes_from : (want : Want) (log : List Event) (place : Place) (answers : List Answer) → ComesTo want log place
    → ComesTo want (log_from place answers log) (fold next place answers)
comes_from want log place [] c = c
comes_from want log place (answer ∷ answers) c =
    comes_from want (record { step = step_at place; answer = answer } ∷ log) (next place answer) answers (comes_behind want log place answer c)

comes : (want : Want) (answers : List Answer) → ComesTo want (log_of want answers) (fold next (places.OpenFile want) answers)
comes want answers = comes_from want [] (places.OpenFile want) answers (record { is = refl; run = tt })

-- each step of a plan is one that may be asked, and so is the next one
pub run-right : (want : Want) (answers : List Answer) → IsRun want (log_of want answers)
run-right want answers = (comes want answers).run

pub next-right : (want : Want) (answers : List Answer) → MayAsk want (log_of want answers) (step_at (fold next (places.OpenFile want) answers))
next-right want answers = may_next want _ _ (comes want answers)
