-- A run that goes on event by event (own).
use Rattle.std.specs.Prelude.{◌≡◌, List, ◌∷◌, ◌++◌, [], Some}
use Rattle.sqworld.specs.WorldKinds.{WorldKind}
use Rattle.sqworld.specs.Worlds.{Served, LifeOn, IsRunOf}
use Rattle.sqworld.specs.declared.base.Base.{Base}
use Rattle.sqworld.specs.declared.engine.Engine.{Ghosts}
use Rattle.sqworld.specs.declared.reply.Run.{Run}
use Rattle.sqworld.specs.declared.world.WorldOf.{WorldOf}

-- The world began with the base, and answered these events.
pub record HasServed {E V : Type 0} (kind : WorldKind E V) {bound : Ghosts E V} (base : Base) (events : List V) (world : WorldOf E V bound) : Type 0 where
  pub engine : E
  pub is_there : world.engine ≡ Some engine
  pub page_size : world.page_size ≡ base.page_size
  pub tears : world.tears ≡ base.tears
  pub served : Served kind base events world.run engine
  pub life : LifeOn kind base events world.run engine

-- of whatever events and base it answered
abbrev pub IsRunOfServed : {E V : Type 0} (kind : WorldKind E V) {bound : Ghosts E V} → WorldOf E V bound → Run → Type 0
IsRunOfServed {E} {V} kind world run = (base : Base) (events : List V) → HasServed kind base events world → IsRunOf kind base events run

-- an event more is answered, whatever was answered before
abbrev pub ServesNext : {E V : Type 0} (kind : WorldKind E V) {bound : Ghosts E V} → V → (old new : WorldOf E V bound) → Type 0
ServesNext {E} {V} kind event old new = (base : Base) (events : List V) → HasServed kind base events old → HasServed kind base (events ++ event ∷ []) new

-- nothing is answered, and what was answered stays
abbrev pub StaysServed : {E V : Type 0} (kind : WorldKind E V) {bound : Ghosts E V} → (old new : WorldOf E V bound) → Type 0
StaysServed {E} {V} kind old new = (base : Base) (events : List V) → HasServed kind base events old → HasServed kind base events new

-- the world is as it was
pub record IsUnchanged {E V : Type 0} {bound : Ghosts E V} (old new : WorldOf E V bound) : Type 0 where
  pub page_size : new.page_size ≡ old.page_size
  pub tears : new.tears ≡ old.tears
  pub engine : new.engine ≡ old.engine
  pub run : new.run ≡ old.run
  pub served : new.served ≡ old.served
  pub failed : new.failed ≡ old.failed
