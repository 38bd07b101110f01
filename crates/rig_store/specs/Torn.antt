-- What a crash may leave of a set of files while a sector of one is being written, on a disk whose sectors tear (own).
use Rattle.std.specs.Prelude.{◌≡◌, ◌⊎◌, ℕ, ◌<◌, List, take, get_or, slice_get, Option, Some, None}
use Rattle.crashdisk.specs.Call.{DiskState}
use Rattle.rig_play.specs.Plays.{Files}
use Rattle.rig_play.specs.declared.meta.Epoch.{Epoch}
use Rattle.rig_images.specs.Left.{MayBeLeft}
use Rattle.rig_images.specs.Torn.{IsPlace, IsTornFile, NoneTears}
use Rattle.rig_images.specs.declared.torn.Which.TheVariants.{Db}
use Rattle.rig_store.specs.Left.{MayLeave, MayStand}
use Rattle.rig_store.specs.Names.{holder}
use Rattle.rig_store.specs.Stores.{StoreState}

-- bytes that a crash may leave of a file, of which a sector that was touched is torn
abbrev pub IsLeftTorn : Files → List ℕ → Type 0
IsLeftTorn f bytes = (e : Epoch) × (d : DiskState) × (k : ℕ) × IsPlace f Db e d k × MayBeLeft f.db e.db bytes × IsTornFile d bytes

-- a crash may leave name k with file i, behind the first n changes of names
pub record MayHold (s : StoreState) (k n i : ℕ) : Type 0 where
  pub name : k < s.names
  pub stands : MayStand s n
  pub holds : holder (take n s.log) k ≡ Some i

-- no file that a crash may leave under a name has a sector that may tear
abbrev pub NoNameTears : StoreState → Type 0
NoNameTears s = (k n i : ℕ) (f : Files) → MayHold s k n i → slice_get s.files i ≡ Some f → NoneTears f Db

-- what a crash may leave where a name shows a file with a torn sector
pub record MayLeaveTorn (s : StoreState) (image : List (Option (List ℕ))) : Type 0 where
  pub left : MayLeave s image
  pub name : ℕ
  pub stand : ℕ
  pub file : ℕ
  pub holds : MayHold s name stand file
  pub state : Files
  pub there : slice_get s.files file ≡ Some state
  pub bytes : List ℕ
  pub torn : IsLeftTorn state bytes
  pub shown : get_or image name None ≡ Some bytes

-- the same where a sector may tear; otherwise what a crash may leave
abbrev pub IsTornIfAny : StoreState → (image : List (Option (List ℕ))) → Type 0
IsTornIfAny s image = MayLeaveTorn s image ⊎ (NoNameTears s × MayLeave s image)
