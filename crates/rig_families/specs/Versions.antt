-- Versions of the files: which values their sectors had behind a call (own).
use Rattle.std.specs.Prelude.{◌≡◌, ℕ, ◌-◌, ◌<◌, IsTrue, List, [], false, length, get_or, map, Option, Some, None}
use Rattle.std.specs.Int.{div_ceil}
use Rattle.std.specs.List.{Contains, range_with_len}
use Rattle.crashdisk.specs.Call.{DiskState}
use Rattle.crashdisk.specs.Choice.{Naming, naming_of, image_of}
use Rattle.rig_play.specs.Names.{NameState, file_now}
use Rattle.rig_play.specs.Plays.{Files, epoch_now, epochs_of}
use Rattle.rig_play.specs.declared.meta.Epoch.{Epoch}
use Rattle.rig_play.specs.declared.meta.Holds.{Holds}
use Rattle.rig_play.specs.declared.meta.Holds.TheVariants.{Any, Nothing, File}
use Rattle.rig_images.specs.Ways.{may_be_none}
use Rattle.rig_images.specs.declared.image.Image.{Image}
use Rattle.rig_families.specs.declared.file_version.FileVersion.{FileVersion}
use Rattle.rig_families.specs.declared.version.Version.{Version}

-- of the files of a name the one of a number, the oldest being 0, and what of it
pub record FileNamed : Type 0 where
  pub file : ℕ
  pub naming : Naming

-- what a version says of the three names, and what they held
pub record Named : Type 0 where
  pub epoch : Epoch
  pub db : Option FileNamed
  pub wal : Option FileNamed
  pub journal : Option FileNamed

abbrev pub file_named : Option FileVersion → Option FileNamed
file_named None = None
file_named (Some v) = Some (record { file = v.file; naming = naming_of v.choice })

abbrev pub named_of : Version → Named
named_of v = record { epoch = v.epoch; db = file_named v.db; wal = file_named v.wal; journal = file_named v.journal }

-- the number of each sector's present value, the oldest that a crash may leave being 0
abbrev pub numbers_of : DiskState → List ℕ
numbers_of f = map (λ k. length (f.db.earlier k)) (range_with_len 0 (div_ceil f.db.greatest f.sector))

-- a file as it is now
abbrev pub file_version : (n : ℕ) → Option DiskState → Option FileNamed
file_version n None = None
file_version n (Some f) = Some (record { file = n; naming = record { pick = numbers_of f; torn = []; newest = false; len = Some f.db.len } })

abbrev pub name_version : NameState → Option FileNamed
name_version s = file_version (length s.files - 1) (file_now s)

-- the files as they are now
abbrev pub version_now : Files → Named
version_now s = record { epoch = epoch_now s; db = name_version s.db; wal = name_version s.wal; journal = name_version s.journal }

-- a name that holds this may have the file of this number
abbrev pub HoldsFile : Holds → (n : ℕ) → Type 0
HoldsFile Any n = Unit {0}
HoldsFile Nothing n = ⊥
HoldsFile (File i) n = i ≡ n

-- a name that holds this may have this file, of this number
pub record IsFileOf (s : NameState) (holds : Holds) (n : ℕ) (f : DiskState) : Type 0 where
  pub holds_it : HoldsFile holds n
  pub within : n < length s.files
  pub is : get_or s.files n f ≡ f

-- a version of what is under a name has these bytes, and the name may hold it
abbrev pub IsLeftUnder : NameState → Holds → Option FileNamed → List ℕ → Type 0
IsLeftUnder s holds None bytes = IsTrue (may_be_none s holds) × (bytes ≡ [])
IsLeftUnder s holds (Some v) bytes = (f : DiskState) × IsFileOf s holds v.file f × (bytes ≡ image_of f.sector f.tears f.db v.naming)

-- the files in a version of them that their names may hold now
pub record IsVersion (s : Files) (v : Named) (image : Image) : Type 0 where
  pub epoch : Contains (epochs_of s) v.epoch
  pub db : IsLeftUnder s.db v.epoch.db v.db image.db.items
  pub wal : IsLeftUnder s.wal v.epoch.wal v.wal image.wal.items
  pub journal : IsLeftUnder s.journal v.epoch.journal v.journal image.journal.items
