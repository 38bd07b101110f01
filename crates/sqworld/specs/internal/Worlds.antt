-- How a run goes on (own).
use Rattle.std.specs.Prelude.{◌≡◌, ℕ, ◌≤◌, Bool, ◌&&◌, List, [], ◌∷◌, ◌++◌, Option, Some, None, is_some}
use Rattle.crashdisk.specs.declared.model.ModelDisk.{ModelDisk}
use Rattle.sqval.specs.Runs.{Moment}
use Rattle.sqworld.specs.WorldKinds.{WorldKind, disk_of, count_of, start_of, moment, moments_of, IsComplete}
use Rattle.sqworld.specs.Worlds.{BeginsOn, AnswersOn}
use Rattle.sqworld.specs.declared.base.Base.{Base}
use Rattle.sqworld.specs.declared.engine.Given.{Given}
use Rattle.sqworld.specs.declared.reply.Run.{Run}

abbrev pub list_of : {X : Type 0} → Option X → List X
list_of None = []
list_of (Some x) = x ∷ []

-- a run has one answer more
pub record IsNoted (given : Given) (count : ℕ) (old new : Run) : Type 0 where
  pub replies : new.replies.items ≡ old.replies.items ++ given.reply ∷ []
  pub refused : new.refused.items ≡ old.refused.items ++ count ∷ []
  pub found : new.found.items ≡ old.found.items ++ list_of given.found
  pub crashed : new.crashed.items ≡ old.crashed.items ++ list_of given.crashed

-- an event is answered, and noted in the run
pub record Goes {E V : Type 0} (kind : WorldKind E V) (page_size : ℕ) (tears : Bool) (event : V) (old : E) (run : Run) (new : E) (run_new : Run) : Type 0 where
  pub given : Given
  pub noted : IsNoted given (count_of kind new) run run_new
  pub answers : kind.Answers page_size tears event old given new

-- the moment of an event that was answered
abbrev pub given_moment : {E V : Type 0} (kind : WorldKind E V) → V → Given → (new : E) → Moment kind.Act
given_moment kind event given new = moment kind event given.found given.crashed given.reply (count_of kind new)

-- From what fits after some moments the machine goes on by a row of its table, and what is there fits again.
pub record GoesTo {E V : Type 0} (kind : WorldKind E V) (base : Base) (ms : List (Moment kind.Act)) (m : Moment kind.Act) (state : kind.State) (old new : E) : Type 0 where
  pub next : kind.State
  pub refused : count_of kind old ≤ count_of kind new
  pub row : kind.Step state m.act m.answer (count_of kind old) (count_of kind new) next
  pub fits : kind.Fits base (ms ++ m ∷ []) next new
  pub sector : (disk_of kind new).sector ≡ (disk_of kind old).sector
  pub tears : (disk_of kind new).tears ≡ (disk_of kind old).tears

-- What a kind of world must meet, so that a run goes on there: each event tells what it found and left, what begins fits,
-- and what fits goes on as far as the premises hold, which a prefix needs no more of.
pub record IsLawful {E V : Type 0} (kind : WorldKind E V) : Type 0 where
  pub found : (page_size : ℕ) (tears : Bool) (event : V) (old new : E) (given : Given) → kind.Answers page_size tears event old given new → is_some given.found ≡ kind.is_opening event
  pub crashed : (page_size : ℕ) (tears : Bool) (event : V) (old new : E) (given : Given) → kind.Answers page_size tears event old given new → is_some given.crashed ≡ (tears && kind.is_crash event)
  pub is_disk : (disk : ModelDisk) → kind.model_of (kind.closed disk) ≡ disk
  pub begins : (base : Base) (disk : ModelDisk) → BeginsOn base disk → kind.Fits base [] (start_of kind base) (kind.closed disk)
  pub prefix : (base : Base) (ms : List (Moment kind.Act)) (m : Moment kind.Act) → kind.Holds base (ms ++ m ∷ []) → kind.Holds base ms
  pub goes : (base : Base) (ms : List (Moment kind.Act)) (state : kind.State) (event : V) (old new : E) (given : Given) → AnswersOn kind base event old given new
      → (disk_of kind old).sector ≡ base.sector → (disk_of kind old).tears ≡ base.tears → kind.Fits base ms state old
      → kind.Holds base (ms ++ given_moment kind event given new ∷ []) → GoesTo kind base ms (given_moment kind event given new) state old new
  pub needs_nothing : (base : Base) (events : List V) (run : Run) → kind.NeedsNothing base → IsComplete kind base.tears events run → kind.Holds base (moments_of kind events run)
