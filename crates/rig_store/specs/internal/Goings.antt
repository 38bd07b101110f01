-- A file comes or goes over (own).
use Rattle.std.specs.Prelude.{◌≡◌, ℕ, ◌<◌, List, ◌∷◌, ◌++◌, [], length}
use Rattle.rig_play.specs.Plays.{Files, StepRefused}
use Rattle.rig_play.specs.declared.trace.Record.{Record}
use Rattle.rig_store.specs.Stores.{StoreState, AddsFile, given}
use Rattle.rig_store.specs.declared.call.Call.{Call}
use Rattle.rig_store.specs.declared.error.StoreError.{StoreError}
use Rattle.rig_store.specs.declared.error.StoreError.TheVariants as errors

-- a file more, of which a record tells, has the name of its call
pub record Adds (b : List ℕ) (c : Call) (r : Record) (old new : StoreState) : Type 0 where
  pub file : c.file ≡ length old.files
  pub name : c.name < old.names
  pub files : List Files
  pub added : AddsFile b r old files
  pub goes : new ≡ record old { files = files; log = old.log ++ given c ∷ [] }

abbrev pub AddRefused : List ℕ → Call → Record → StoreState → StoreError → Type 0
AddRefused b c r old errors.Unknown = ¬ ((c.file ≡ length old.files) × (c.name < old.names))
AddRefused b c r old (errors.Play e) = (was : Files) × StepRefused was b r e
AddRefused b c r old errors.NoMemory = Unit {0}
AddRefused b c r old _ = ⊥

abbrev pub GoRefused : List ℕ → Record → (i : ℕ) → StoreState → StoreError → Type 0
GoRefused b r i old errors.Unknown = ¬ (i < length old.files)
GoRefused b r i old (errors.Play e) = (was : Files) × StepRefused was b r e
GoRefused b r i old _ = ⊥
