-- The sectors that may be torn, as they are looked for (own).
use Rattle.std.specs.Prelude.{◌≡◌, ℕ, ◌+◌, ◌-◌, ◌*◌, ◌<◌, min, List, length, get_or, true}
use Rattle.std.specs.List.{Contains}
use Rattle.crashdisk.specs.Call.{DiskState}
use Rattle.crashdisk.specs.Choice.{Naming, listed, image_of}
use Rattle.crashdisk.specs.Model.{state_of}
use Rattle.crashdisk.specs.State.{FileState, IsImage}
use Rattle.crashdisk.specs.declared.model.ModelDisk.{ModelDisk}
use Rattle.rig_play.specs.Plays.{Files}
use Rattle.rig_play.specs.declared.meta.Epoch.{Epoch}
use Rattle.rig_images.specs.Torn.{name_in, holds_in}
use Rattle.rig_images.specs.Ways.{held_files}
use Rattle.rig_images.specs.declared.torn.Which.{Which}

-- sector k of a file was touched, on a disk that tears
abbrev pub IsTearing : DiskState → (k : ℕ) → Type 0
IsTearing f k = (f.tears ≡ true) × (0 < length (f.db.earlier k))

-- one of these files has that sector
abbrev pub IsPlaceOf : List ModelDisk → ModelDisk → (k : ℕ) → Type 0
IsPlaceOf files d k = Contains files d × IsTearing (state_of d) k

-- the first so many of these files have no such sector
abbrev pub NoneTearing : List ModelDisk → (n : ℕ) → Type 0
NoneTearing files n = (i : ℕ) (d : ModelDisk) (k : ℕ) → i < n → i < length files → get_or files i d ≡ d → ¬ IsTearing (state_of d) k

-- no file of a name has such a sector in an epoch
abbrev pub NoneIn : Files → Which → Epoch → Type 0
NoneIn s w e = (f : DiskState) (k : ℕ) → Contains (held_files (name_in w s) (holds_in w e)) f → ¬ IsTearing f k

-- where sector k ends in the file at its longest
abbrev pub sector_end : (sector : ℕ) → FileState → (k : ℕ) → ℕ
sector_end sector s k = min (k * sector + sector) s.greatest

-- the bytes of value number n of sector k, as far as the file at its longest goes
pub record IsValue (sector : ℕ) (s : FileState) (k n : ℕ) (bytes : List ℕ) : Type 0 where
  pub long : length bytes ≡ sector_end sector s k - k * sector
  pub each : (j : ℕ) → j < length bytes → get_or bytes j 0 ≡ listed s k n (k * sector + j)

-- the bytes that a naming gives a file, which a crash may leave of it
pub record IsNamed (f : DiskState) (naming : Naming) (bytes : List ℕ) : Type 0 where
  pub is : bytes ≡ image_of f.sector f.tears f.db naming
  pub left : IsImage f.sector f.tears f.db bytes
