-- A name with a file that has a torn sector, as it is looked for (own).
use Rattle.std.specs.Prelude.{◌≡◌, ℕ, ◌<◌, ◌≤◌, slice_get, Some}
use Rattle.rig_play.specs.Plays.{Files}
use Rattle.rig_images.specs.Torn.{NoneTears}
use Rattle.rig_images.specs.declared.torn.Which.TheVariants.{Db}
use Rattle.rig_store.specs.Stores.{StoreState}
use Rattle.rig_store.specs.Torn.{IsLeftTorn, MayHold}
use Rattle.rig_store.specs.declared.torn.Torn.{Torn}

-- these are torn bytes of a file that a crash may leave under this name
pub record IsTorn (s : StoreState) (t : Torn) : Type 0 where
  pub holds : MayHold s t.name t.stand t.file
  pub state : Files
  pub there : slice_get s.files t.file ≡ Some state
  pub torn : IsLeftTorn state t.bytes.items

-- name k has no file that tears behind the first n changes of names; behind those from one number to another; and none of such
-- names has
abbrev pub NoneTearsAt : StoreState → (k n : ℕ) → Type 0
NoneTearsAt s k n = (i : ℕ) (f : Files) → MayHold s k n i → slice_get s.files i ≡ Some f → NoneTears f Db

abbrev pub NoneTearsBetween : StoreState → (k from to : ℕ) → Type 0
NoneTearsBetween s k from to = (n : ℕ) → from ≤ n → n < to → NoneTearsAt s k n

abbrev pub NoneTearsAmong : StoreState → (from to : ℕ) → Type 0
NoneTearsAmong s from to = (k n : ℕ) → from ≤ k → k < to → NoneTearsAt s k n
