-- What a crash may leave while a sector is being written, on a disk whose sectors tear (own).
use Rattle.std.specs.Prelude.{◌≡◌, ℕ, ◌<◌, List, length, true}
use Rattle.std.specs.List.{Contains}
use Rattle.crashdisk.specs.Call.{DiskState}
use Rattle.crashdisk.specs.Choice.{listed}
use Rattle.crashdisk.specs.State.{FileState, IsImage, Shows}
use Rattle.rig_play.specs.Names.{NameState}
use Rattle.rig_play.specs.Plays.{Files, epochs_of}
use Rattle.rig_play.specs.declared.meta.Epoch.{Epoch}
use Rattle.rig_play.specs.declared.meta.Holds.{Holds}
use Rattle.rig_images.specs.Left.{MayLeaveIn}
use Rattle.rig_images.specs.Ways.{held_files}
use Rattle.rig_images.specs.declared.image.Image.{Image}
use Rattle.rig_images.specs.declared.torn.Which.{Which}
use Rattle.rig_images.specs.declared.torn.Which.TheVariants.{Db, Wal, Journal}

-- Sector k was touched since the file was last synced, and these bytes of the file have there neither what it has now nor what it
-- had then: where it had no third value, they are torn.
pub record IsTornAt (sector : ℕ) (s : FileState) (k : ℕ) (bytes : List ℕ) : Type 0 where
  pub touched : 0 < length (s.earlier k)
  pub not_new : ¬ Shows sector k s.present bytes
  pub not_old : ¬ Shows sector k (listed s k 0) bytes

-- a file that a crash may leave with a sector torn so
pub record IsTornFile (f : DiskState) (bytes : List ℕ) : Type 0 where
  pub image : IsImage f.sector f.tears f.db bytes
  pub sector : ℕ
  pub torn : IsTornAt f.sector f.db sector bytes

-- one of the three names, what it holds in an epoch, and its bytes in an image
abbrev pub name_in : Which → Files → NameState
name_in Db s = s.db
name_in Wal s = s.wal
name_in Journal s = s.journal

abbrev pub holds_in : Which → Epoch → Holds
holds_in Db e = e.db
holds_in Wal e = e.wal
holds_in Journal e = e.journal

abbrev pub bytes_in : Which → Image → List ℕ
bytes_in Db image = image.db.items
bytes_in Wal image = image.wal.items
bytes_in Journal image = image.journal.items

-- a file that a name holds in an epoch, a sector of which may tear
pub record IsPlace (s : Files) (w : Which) (e : Epoch) (f : DiskState) (k : ℕ) : Type 0 where
  pub epoch : Contains (epochs_of s) e
  pub held : Contains (held_files (name_in w s) (holds_in w e)) f
  pub tears : f.tears ≡ true
  pub touched : 0 < length (f.db.earlier k)

-- what a crash may leave of which the file of this name has a torn sector
abbrev pub MayLeaveTorn : Files → Which → Image → Type 0
MayLeaveTorn s w image =
    (e : Epoch) × (f : DiskState) × (k : ℕ) × IsPlace s w e f k × MayLeaveIn s e image × IsTornFile f (bytes_in w image)

-- no file of this name has a sector that may tear
abbrev pub NoneTears : Files → Which → Type 0
NoneTears s w = (e : Epoch) (f : DiskState) (k : ℕ) → ¬ IsPlace s w e f k
