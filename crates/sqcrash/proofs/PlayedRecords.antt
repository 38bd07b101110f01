-- What records that were judged, or looked at, did to the files.
use Rattle.std.proofs.Common.{◌≡◌, inl, inr, ℕ, ◌+◌, ◌*◌, ◌≤◌, Bool, true, false, cond, List, [], ◌∷◌, length, refl, sym, ◌∙◌, ap, subst, length-append, arith}
use Rattle.rig_play.specs.Plays.{Files, Step, Plays}
use Rattle.rig_play.specs.declared.trace.Kind.{Kind}
use Rattle.rig_play.specs.declared.trace.Kind.TheVariants as kinds
use Rattle.rig_play.specs.declared.trace.Record.{Record}
use Rattle.rig_images.specs.declared.image.Image.{Image}
use Rattle.rig_judge.specs.Shown.{Commit}
use Rattle.sqcrash.specs.Runs.{RunState, Notes, TakesWaiting, TakesBy, Takes, Begins, Goes, Calls, PlaysBy, PlaysOne}
use Rattle.sqcrash.specs.Marked.{MarkState, AreFaults, NotesChecked, BeginsChecked, GoesOver, MarksBy, MarksAll}
use Rattle.sqcrash.specs.Refusals.{IsUnplayed, PlayRefused}
use Rattle.sqcrash.specs.Rigs.{RigState, JudgesAll}
use Rattle.sqcrash.specs.declared.outcome.Refusal.{Refusal}
use Rattle.sqcrash.specs.declared.marked.CommitFault.{CommitFault}
use Rattle.sqcrash.specs.declared.plan.CommitsAt.{CommitsAt}
use Rattle.sqcrash.specs.declared.plan.CommitsAt.TheVariants as at
use Rattle.sqcrash.specs.declared.plan.Plan.{Plan}

-- a run has the files of another one, and as many records were played
pub record Keeps (old new : RunState) : Type 0 where
  pub files : new.files ≡ old.files
  pub played : new.played ≡ old.played

-- a record was played
pub record Steps (b : List ℕ) (r : Record) (old new : RunState) : Type 0 where
  pub step : Step b r old.files new.files
  pub played : new.played ≡ old.played + 1

keeps_all : (run : RunState) → Keeps run run
keeps_all run = record { files = refl; played = refl }

keeps_as : (old made new : RunState) → new ≡ made → Keeps old made → Keeps old new
keeps_as old made new e keeps = subst (λ (s : RunState). Keeps old s) (sym e) keeps

keeps_notes : (thread : ℕ) (old new : RunState) → Notes thread old new → Keeps old new
keeps_notes thread old new notes = keeps_as old _ new notes.goes (record { files = refl; played = refl })

keeps_shown : (shown : Bool) (old made new : RunState) → new ≡ cond shown made old → Keeps old made → Keeps old new
keeps_shown true old made new e keeps = keeps_as old made new e keeps
keeps_shown false old made new e keeps = keeps_as old old new e (keeps_all old)

keeps_waiting : (waiting : List Commit) (thread : ℕ) (old new : RunState) → TakesWaiting waiting thread old new → Keeps old new
keeps_waiting [] thread old new is = keeps_as old old new is (keeps_all old)
keeps_waiting (next ∷ rest) thread old new is = keeps_shown is.shown old _ new is.goes (record { files = refl; played = refl })

keeps_by : (commits : CommitsAt) (thread : ℕ) (old new : RunState) → TakesBy commits thread old new → Keeps old new
keeps_by at.Calls thread old new is = keeps_notes thread old new is
keeps_by at.Marks thread old new is = keeps_waiting old.waiting thread old new is

-- what is taken as a commit leaves the files
pub keeps_takes : (thread : ℕ) (old new : RunState) → Takes thread old new → Keeps old new
keeps_takes thread old new is = keeps_by old.taken_at thread old new is

pub keeps_begins : (thread : ℕ) (old new : RunState) → Begins thread old new → Keeps old new
keeps_begins thread old new is = elim is [
  | inl first ↦ keeps_takes thread old new first.1
  | inr later ↦ keeps_as old old new later.1 (keeps_all old)
]

steps_goes : (b : List ℕ) (r : Record) (old new : RunState) → Goes b r old new → Steps b r old new
steps_goes b r old new is = record { step = is.step; played = ap (λ (s : RunState). s.played) is.rest }

-- a record is played between steps that leave the files
steps_between : (b : List ℕ) (r : Record) (old mid gone new : RunState) → Keeps old mid → Steps b r mid gone → Keeps gone new → Steps b r old new
steps_between b r old mid gone new before is after = record {
  step = subst (λ (s : Files). Step b r s new.files) before.files (subst (λ (s : Files). Step b r mid.files s) (sym after.files) is.step);
  played = after.played ∙ is.played ∙ ap (λ (n : ℕ). n + 1) before.played;
}

steps_calls : (b : List ℕ) (r : Record) (old new : RunState) → Calls b r old new → Steps b r old new
steps_calls b r old new is = steps_between b r old is.0 is.1 new (keeps_begins r.thread old is.0 is.2) (steps_goes b r is.0 is.1 is.3) (keeps_takes r.thread is.1 new is.4)

steps_by : (kind : Kind) (b : List ℕ) (r : Record) (old new : RunState) → PlaysBy kind b r old new → Steps b r old new
steps_by kinds.Base b r old new is = steps_goes b r old new is
steps_by kinds.Mark b r old new is =
    steps_between b r old old is.0 new (keeps_all old) (steps_calls b r old is.0 is.1) (keeps_as is.0 _ new is.2.goes (record { files = refl; played = refl }))
steps_by _ b r old new is = steps_calls b r old new is

-- one record is played
pub steps_one : (b : List ℕ) (r : Record) (old new : RunState) → PlaysOne b r old new → Steps b r old new
steps_one b r old new is = steps_by r.kind b r old new is

-- what refuses it then refused it before
pub refused_keeps : (b : List ℕ) (r : Record) (old mid : RunState) (refusal : Refusal) → Keeps old mid → PlayRefused b r mid refusal → PlayRefused b r old refusal
refused_keeps b r old mid refusal keeps is = elim is [
  | inl memory ↦ inl memory
  | inr (inl many) ↦ inr (inl (many.0, omega (arith, many.1, keeps.played)))
  | inr (inr unplayed) ↦ inr (inr (subst (λ (s : Files). IsUnplayed s b r refusal) keeps.files unplayed))
]

-- and all of them
pub plays_all : (plan : Plan) (b : List ℕ) (records : List Record) (old new : RigState) (lines : List (List ℕ)) → JudgesAll plan b records old new lines
    → Plays b records old.run.files new.run.files × (new.run.played ≡ old.run.played + length records)
plays_all plan b [] old new lines is = (ap (λ (s : RigState). s.run.files) is.0, ap (λ (s : RigState). s.run.played) is.0 ∙ (let e : old.run.played ≡ old.run.played + 0 = omega arith in e))
plays_all plan b (r ∷ records) old new lines is =
    let one = steps_one b r old.run is.0.run is.3.0 in
    let more = plays_all plan b records is.0 new is.2 is.4 in
    ((is.0.run.files, one.step, more.0), omega (arith, one.played, more.1))

-- a record of which the marks are looked at, and how many faults there are then
pub record Looks (b : List ℕ) (r : Record) (old new : MarkState) : Type 0 where
  pub steps : Steps b r old.run new.run
  pub faults : length new.faults ≤ length old.faults + 2

faults_found : (taken : Bool) (k : ℕ) (image : Image) (found : List CommitFault) → AreFaults taken k image found → length found ≤ 1
faults_found false k image found is = let e = ap (λ (l : List CommitFault). length l) is in omega (arith, e)
faults_found true k image found is = elim is [
  | inl none ↦ let e = ap (λ (l : List CommitFault). length l) none.1 in omega (arith, e)
  | inr one ↦ let e = ap (λ (l : List CommitFault). length l) one.2 in omega (arith, e)
]

-- a commit may be looked at, and leaves the files
record Notices (old new : MarkState) : Type 0 where
  keeps : Keeps old.run new.run
  faults : length new.faults ≤ length old.faults + 1

notices_one : (thread : ℕ) (old new : MarkState) → NotesChecked thread old new → Notices old new
notices_one thread old new is = record {
  keeps = keeps_notes thread old.run new.run is.notes;
  faults =
      let e = ap (λ (l : List CommitFault). length l) is.faults in
      let few = faults_found is.notes.taken (length old.run.commits) is.notes.present is.found is.are in
      omega (arith, e, few, length-append old.faults is.found);
}

notices_begins : (thread : ℕ) (old new : MarkState) → BeginsChecked thread old new → Notices old new
notices_begins thread old new is = elim is [
  | inl first ↦ notices_one thread old new first.1
  | inr later ↦ subst (λ (s : MarkState). Notices old s) (sym later.1) (record { keeps = keeps_all old.run; faults = omega arith })
]

pub keeps_checked : (thread : ℕ) (old new : MarkState) → BeginsChecked thread old new → Keeps old.run new.run
keeps_checked thread old new is = let one = notices_begins thread old new is in one.keeps

looks_between : (b : List ℕ) (r : Record) (old mid gone new : MarkState) → Notices old mid → GoesOver b r mid gone → Notices gone new → Looks b r old new
looks_between b r old mid gone new before is after = record {
  steps = steps_between b r old.run mid.run gone.run new.run before.keeps (steps_goes b r mid.run gone.run is.0) after.keeps;
  faults = let e = ap (λ (l : List CommitFault). length l) is.1 in omega (arith, e, before.faults, after.faults);
}

notices_none : (s : MarkState) → Notices s s
notices_none s = record { keeps = keeps_all s.run; faults = omega arith }

looks_by : (kind : Kind) (b : List ℕ) (r : Record) (old new : MarkState) → MarksBy kind b r old new → Looks b r old new
looks_by kinds.Base b r old new is = looks_between b r old old new new (notices_none old) is (notices_none new)
looks_by kinds.Mark b r old new is = looks_between b r old is.0 is.1 new (notices_begins r.thread old is.0 is.2) is.3 (notices_one r.thread is.1 new is.4)
looks_by _ b r old new is = looks_between b r old is.0 new new (notices_begins r.thread old is.0 is.1) is.2 (notices_none new)

-- all of them
pub record LooksAll (b : List ℕ) (records : List Record) (old new : MarkState) : Type 0 where
  pub plays : Plays b records old.run.files new.run.files
  pub played : new.run.played ≡ old.run.played + length records
  pub faults : length new.faults ≤ length old.faults + 2 * length records

pub looks_all : (b : List ℕ) (records : List Record) (old new : MarkState) → MarksAll b records old new → LooksAll b records old new
looks_all b [] old new is = subst (λ (s : MarkState). LooksAll b [] old s) (sym is) (record { plays = refl; played = omega arith; faults = omega arith })
looks_all b (r ∷ records) old new is =
    let one = looks_by r.kind b r old is.0 is.1 in
    let more = looks_all b records is.0 new is.2 in
    record { plays = (is.0.run.files, one.steps.step, more.plays); played = omega (arith, one.steps.played, more.played); faults = omega (arith, one.faults, more.faults) }
