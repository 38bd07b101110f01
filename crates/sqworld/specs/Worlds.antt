-- How a run goes on (own).
use Rattle.std.specs.Prelude.{◌≡◌, ℕ, List, ◌∷◌, ◌++◌, [], take}
use Rattle.std.specs.List.{concat}
use Rattle.sqval.specs.PageSize.{IsPageSize}
use Rattle.sqval.specs.Runs.{Moment, Runs, IsRun}
use Rattle.crashdisk.specs.Call.{IsNew}
use Rattle.crashdisk.specs.Model.{state_of}
use Rattle.crashdisk.specs.Stop.{no_stops}
use Rattle.crashdisk.specs.declared.model.ModelDisk.{ModelDisk}
use Rattle.sqworld.specs.Pages.{pages_of}
use Rattle.sqworld.specs.Run.{answer_of}
use Rattle.sqworld.specs.WorldKinds.{WorldKind, disk_of, count_of, start_of, moments_of, IsComplete}
use Rattle.sqworld.specs.Lives.{IsLife}
use Rattle.sqworld.specs.declared.base.Base.{Base}
use Rattle.sqworld.specs.declared.engine.Given.{Given}
use Rattle.sqworld.specs.declared.reply.Reply.{Reply}
use Rattle.sqworld.specs.declared.reply.Run.{Run}

-- a disk of the base, with an empty log, both durable, and nothing set
pub record BeginsOn (base : Base) (disk : ModelDisk) : Type 0 where
  pub is_size : IsPageSize base.page_size
  pub new : IsNew base.sector base.tears (concat (pages_of base.pages.items)) (state_of disk)
  pub unset : disk.stops ≡ no_stops

-- a run has one reply more, and it says what this one says
pub record EndsWith (reply : Reply) (old new : Run) : Type 0 where
  pub last : Reply
  pub replies : new.replies.items ≡ old.replies.items ++ last ∷ []
  pub same : answer_of last ≡ answer_of reply

-- These moments are a run, at whose end the engine fits, on a disk that is what it was.
pub record Fitting {E V : Type 0} (kind : WorldKind E V) (base : Base) (ms : List (Moment kind.Act)) (engine : E) : Type 0 where
  pub state : kind.State
  pub fits : kind.Fits base ms state engine
  pub runs : Runs kind.Step (start_of kind base) 0 ms state (count_of kind engine)
  pub sector : (disk_of kind engine).sector ≡ base.sector
  pub tears : (disk_of kind engine).tears ≡ base.tears

-- Moments of events were served: as far as the premises hold, they are a run; and what fits at the end.
pub record Goings {E V : Type 0} (kind : WorldKind E V) (base : Base) (ms : List (Moment kind.Act)) (engine : E) : Type 0 where
  pub prefixes : (n : ℕ) → kind.Holds base (take n ms) → IsRun kind.Step (start_of kind base) (take n ms)
  pub fits : kind.Holds base ms → Fitting kind base ms engine

-- events were answered
pub record Served {E V : Type 0} (kind : WorldKind E V) (base : Base) (events : List V) (run : Run) (engine : E) : Type 0 where
  pub complete : IsComplete kind base.tears events run
  pub goings : Goings kind base (moments_of kind events run) engine

-- an event is answered, in a run of this base
abbrev pub AnswersOn : {E V : Type 0} (kind : WorldKind E V) → Base → V → E → Given → E → Type 0
AnswersOn kind base event old given new = kind.Answers base.page_size base.tears event old given new

-- from a disk to an engine
abbrev pub IsLifeOf : {E V : Type 0} (kind : WorldKind E V) → Base → ModelDisk → List V → Run → E → Type 0
IsLifeOf kind base disk events run last = IsLife (AnswersOn kind base) (count_of kind) (kind.closed disk) events run last

-- and of which base
abbrev pub LifeOn : {E V : Type 0} (kind : WorldKind E V) → Base → List V → Run → E → Type 0
LifeOn kind base events run engine = (disk : ModelDisk) × BeginsOn base disk × IsLifeOf kind base disk events run engine

-- The run is the life of a disk that begins with the base: an opening found what was there, a crash left the files that its
-- choice or its number names, and each stop and each failure was set as its event says.
abbrev pub HasLife : {E V : Type 0} (kind : WorldKind E V) → Base → List V → Run → Type 0
HasLife {E} kind base events run = (disk : ModelDisk) × (last : E) × BeginsOn base disk × IsLifeOf kind base disk events run last

-- What `run_wal` and `run_journal` ensure of a run: a reply and a count for each event, the life of the disk, and that as far
-- as the premises hold the replies are those of the machine.
pub record IsRunOf {E V : Type 0} (kind : WorldKind E V) (base : Base) (events : List V) (run : Run) : Type 0 where
  pub complete : IsComplete kind base.tears events run
  pub life : HasLife kind base events run
  pub runs : (n : ℕ) → kind.Holds base (take n (moments_of kind events run)) → IsRun kind.Step (start_of kind base) (take n (moments_of kind events run))
  pub untorn : kind.NeedsNothing base → IsRun kind.Step (start_of kind base) (moments_of kind events run)
