-- The kind of world of an engine, whichever log it keeps, and the moments of a run there (own).
use Rattle.std.specs.Prelude.{◌≡◌, ℕ, Bool, true, false, cond, List, [], ◌∷◌, length, Option, Some, None}
use Rattle.std.specs.List.{count_by}
use Rattle.crashdisk.specs.Call.{DiskState}
use Rattle.crashdisk.specs.Model.{state_of}
use Rattle.crashdisk.specs.declared.model.ModelDisk.{ModelDisk}
use Rattle.sqval.specs.Answers.{Answer}
use Rattle.sqval.specs.Database.{Database}
use Rattle.sqval.specs.Runs.{Moment}
use Rattle.sqworld.specs.Pages.{pages_of}
use Rattle.sqworld.specs.Run.{answer_of}
use Rattle.sqworld.specs.declared.base.Base.{Base}
use Rattle.sqworld.specs.declared.engine.Given.{Given}
use Rattle.sqworld.specs.declared.reply.Reply.{Reply}
use Rattle.sqworld.specs.declared.reply.Found.{Found}
use Rattle.sqworld.specs.declared.reply.Crashed.{Crashed as CrashedLog}
use Rattle.sqworld.specs.declared.reply.Run.{Run}

-- Engines of a type, the events of a type that they answer, and the state machine that says what they answer.
pub record WorldKind (E V : Type 0) : Type 1 where
  -- the machine: its acts and its states, where it begins, and its table
  pub Act : Type 0
  pub State : Type 0
  pub start : (page_size : ℕ) → Database → State
  pub Step : State → Act → Answer → (before after : ℕ) → State → Type 0
  -- what the theorem on runs rests on, and where that is nothing
  pub Holds : Base → List (Moment Act) → Type 0
  pub NeedsNothing : Base → Type 0
  -- an event, and what it is to the machine, with what was found or left
  pub is_opening : V → Bool
  pub is_crash : V → Bool
  pub act_of : V → Option Found → Option CrashedLog → Act
  -- a disk that no engine was opened on, an engine's disk, and what an event does
  pub closed : ModelDisk → E
  pub model_of : E → ModelDisk
  pub Answers : (page_size : ℕ) → (tears : Bool) → V → E → Given → E → Type 0
  -- what these moments of a base leave fits, where they lead the machine to this state
  pub Fits : Base → List (Moment Act) → State → E → Type 0

-- what an engine's disk lists, and how many calls it has refused
abbrev pub disk_of : {E V : Type 0} → WorldKind E V → E → DiskState
disk_of kind engine = state_of (kind.model_of engine)

abbrev pub count_of : {E V : Type 0} → WorldKind E V → E → ℕ
count_of kind engine = (disk_of kind engine).refused

-- where the machine begins
abbrev pub start_of : {E V : Type 0} (kind : WorldKind E V) → Base → kind.State
start_of kind base = kind.start base.page_size (pages_of base.pages.items)

-- an event with its reply and its count
abbrev pub moment : {E V : Type 0} (kind : WorldKind E V) → V → Option Found → Option CrashedLog → Reply → (refused : ℕ) → Moment kind.Act
moment kind event found crashed reply refused = record { act = kind.act_of event found crashed; answer = answer_of reply; refused = refused }

-- the first of a list, for an event that takes it; what is left of the list; and whether there is none to take
abbrev pub taken : {X : Type 0} → List X → (takes : Bool) → Option X
taken [] takes = None
taken (x ∷ xs) true = Some x
taken (x ∷ xs) false = None

abbrev pub rest : {X : Type 0} → List X → (takes : Bool) → List X
rest [] takes = []
rest (x ∷ xs) true = xs
rest (x ∷ xs) false = x ∷ xs

abbrev pub lacks : {X : Type 0} → List X → (takes : Bool) → Bool
lacks [] takes = takes
lacks (x ∷ xs) takes = false

-- Each event with its reply and its count; openings take what was found in order, and crashes what they left.
abbrev pub moments : {E V : Type 0} (kind : WorldKind E V) → List V → List Reply → (refused : List ℕ) → List Found → List CrashedLog → List (Moment kind.Act)
moments kind (event ∷ events) (reply ∷ replies) (n ∷ refused) founds crashed =
    cond (lacks founds (kind.is_opening event)) []
    (moment kind event (taken founds (kind.is_opening event)) (taken crashed (kind.is_crash event)) reply n
    ∷ moments kind events replies refused (rest founds (kind.is_opening event)) (rest crashed (kind.is_crash event)))
moments kind _ _ _ _ _ = []

-- those of a run
abbrev pub moments_of : {E V : Type 0} (kind : WorldKind E V) → List V → Run → List (Moment kind.Act)
moments_of kind events run = moments kind events run.replies.items run.refused.items run.found.items run.crashed.items

-- One reply and one count for each event, what was found for each opening, and on a disk that tears what was left for each crash.
pub record IsComplete {E V : Type 0} (kind : WorldKind E V) (tears : Bool) (events : List V) (run : Run) : Type 0 where
  pub replies : length run.replies.items ≡ length events
  pub refused : length run.refused.items ≡ length events
  pub found : length run.found.items ≡ count_by kind.is_opening events
  pub crashed : length run.crashed.items ≡ cond tears (count_by kind.is_crash events) 0
