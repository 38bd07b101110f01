-- What a crash may leave of a database file and its logs, and what is there now (own).
use Rattle.std.specs.Prelude.{◌≡◌, ◌⊎◌, ℕ, IsTrue, List, []}
use Rattle.std.specs.List.{Contains}
use Rattle.crashdisk.specs.Call.{DiskState}
use Rattle.crashdisk.specs.State.{IsImage}
use Rattle.rig_play.specs.Names.{NameState, file_now, ArePresentOf}
use Rattle.rig_play.specs.Plays.{Files, epochs_of}
use Rattle.rig_play.specs.declared.meta.Epoch.{Epoch}
use Rattle.rig_play.specs.declared.meta.Holds.{Holds}
use Rattle.rig_images.specs.Ways.{held_files, may_be_none}
use Rattle.rig_images.specs.declared.image.Image.{Image}

-- the bytes that a crash may leave under a name where it holds this: those of an image of one of its files, or none
-- where it may be gone
abbrev pub MayBeLeft : NameState → Holds → List ℕ → Type 0
MayBeLeft s holds bytes =
    ((f : DiskState) × Contains (held_files s holds) f × IsImage f.sector f.tears f.db bytes) ⊎ (IsTrue (may_be_none s holds) × (bytes ≡ []))

-- what a crash may leave in an epoch: there the three files crash independently of each other
pub record MayLeaveIn (s : Files) (e : Epoch) (image : Image) : Type 0 where
  pub db : MayBeLeft s.db e.db image.db.items
  pub wal : MayBeLeft s.wal e.wal image.wal.items
  pub journal : MayBeLeft s.journal e.journal image.journal.items

-- what a crash may leave: that of one of the epochs, of which there is one alone unless metadata becomes durable in
-- order
abbrev pub MayLeave : Files → Image → Type 0
MayLeave s image = (e : Epoch) × Contains (epochs_of s) e × MayLeaveIn s e image

-- the three files as they are now, where no crash comes
pub record IsPresent (s : Files) (image : Image) : Type 0 where
  pub db : ArePresentOf (file_now s.db) image.db.items
  pub wal : ArePresentOf (file_now s.wal) image.wal.items
  pub journal : ArePresentOf (file_now s.journal) image.journal.items
