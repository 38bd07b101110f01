-- Worlds over a write-ahead log (own).
use Rattle.std.specs.Prelude.{◌≡◌, ℕ, Bool, List, [], ◌∷◌}
use Rattle.walcore.specs.Machine.{State, start, Act, Step}
use Rattle.walcore.specs.Making.{Made, Makes, Holds, nothing}
use Rattle.walcore.specs.Fits.{Past}
use Rattle.sqval.specs.Runs.{Moment}
use Rattle.sqworld.specs.WorldKinds.{WorldKind}
use Rattle.sqworld.specs.Run.{act_of, is_opening, is_crash}
use Rattle.sqworld.specs.Engines.{FitsEngine, model_of, Answers}
use Rattle.sqworld.specs.declared.base.Base.{Base}
use Rattle.sqworld.specs.declared.event.Event.{Event}
use Rattle.sqworld.specs.declared.wal_engine.WalEngine.{WalEngine}
use Rattle.sqworld.specs.declared.wal_engine.WalEngine.TheVariants.{Closed}

-- what is made of logs from one moment to the next
abbrev pub MakesAll : (size sector : ℕ) (tears : Bool) → Made → List (Moment Act) → Made → Type 0
MakesAll size sector tears made [] after = after ≡ made
MakesAll size sector tears made (m ∷ ms) after = (mid : Made) × Makes size sector tears made m.act m.answer mid × MakesAll size sector tears mid ms after

-- what these moments of a base leave fits an engine, where they lead the machine to this state
pub record FitsWal (base : Base) (ms : List (Moment Act)) (state : State) (engine : WalEngine) : Type 0 where
  pub past : Past
  pub state_is : past.state ≡ state
  pub page_size : past.state.page_size ≡ base.page_size
  pub fits : FitsEngine past engine
  pub made : MakesAll base.page_size base.sector base.tears nothing ms past.made

-- walcore's machine and its premises, and the events of a run
abbrev pub wal_kind : WorldKind WalEngine Event
wal_kind = record {
  Act = Act;
  State = State;
  start = start;
  Step = Step;
  Holds = λ base ms. Holds base.page_size base.sector base.tears nothing ms;
  NeedsNothing = λ base. ⊥;
  is_opening = is_opening;
  is_crash = is_crash;
  act_of = act_of;
  closed = λ disk. Closed disk 0;
  model_of = model_of;
  Answers = Answers;
  Fits = FitsWal;
}
