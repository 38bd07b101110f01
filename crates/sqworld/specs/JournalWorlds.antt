-- Worlds over a rollback journal (own).
use Rattle.std.specs.Prelude.{◌≡◌, List, false}
use Rattle.rollcore.specs.Machine.{State, start, Act, Step}
use Rattle.rollcore.specs.Premises.{Holds}
use Rattle.sqval.specs.Runs.{Moment}
use Rattle.sqworld.specs.WorldKinds.{WorldKind}
use Rattle.sqworld.specs.JournalRun.{act_of, is_opening, is_crash}
use Rattle.sqworld.specs.JournalEngines.{FitsEngine, model_of, Answers}
use Rattle.sqworld.specs.declared.base.Base.{Base}
use Rattle.sqworld.specs.declared.journal_engine.JournalEngine.{JournalEngine}
use Rattle.sqworld.specs.declared.journal_engine.JournalEngine.TheVariants.{Closed}
use Rattle.sqworld.specs.declared.journal_event.JEvent.{JEvent}

-- what these moments of a base leave fits an engine, where they lead the machine to this state
pub record FitsJournal (base : Base) (ms : List (Moment Act)) (state : State) (engine : JournalEngine) : Type 0 where
  pub page_size : state.page_size ≡ base.page_size
  pub fits : FitsEngine state engine

-- rollcore's machine and its premises, and the events of a run; a disk that doesn't tear needs no premise
abbrev pub journal_kind : WorldKind JournalEngine JEvent
journal_kind = record {
  Act = Act;
  State = State;
  start = start;
  Step = Step;
  Holds = λ base ms. Holds ms;
  NeedsNothing = λ base. base.tears ≡ false;
  is_opening = is_opening;
  is_crash = is_crash;
  act_of = act_of;
  closed = λ disk. Closed disk;
  model_of = model_of;
  Answers = Answers;
  Fits = FitsJournal;
}
