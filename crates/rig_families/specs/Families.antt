-- The likeliest images of a crash: all up to a call is down and nothing later, or all but one sector or one length (own).
use Rattle.std.specs.Prelude.{◌⊎◌, ℕ, ◌<◌, cond, nat_le, List, [], ◌∷◌, ◌++◌, length, get_or, drop, max, set, Option, Some, None}
use Rattle.std.specs.List.{Contains}
use Rattle.rig_play.specs.Plays.{Files}
use Rattle.rig_play.specs.declared.trace.Kind.{Kind}
use Rattle.rig_play.specs.declared.trace.Kind.TheVariants as kinds
use Rattle.rig_images.specs.declared.image.Image.{Image}
use Rattle.rig_images.specs.declared.torn.Which.{Which}
use Rattle.rig_images.specs.declared.torn.Which.TheVariants.{Db, Wal, Journal}
use Rattle.rig_families.specs.Versions.{FileNamed, Named, IsVersion, version_now}
use Rattle.rig_families.specs.declared.version.Piece.{Piece}
use Rattle.rig_families.specs.declared.version.Piece.TheVariants.{Sector, Length}

-- where there are 32, the oldest is let go
abbrev pub last_kept : List Named → List Named
last_kept old = cond (nat_le 32 (length old)) (drop 1 old) old

-- The versions behind the last calls that changed a file or a name, the oldest first, with the one behind a record of this kind:
-- none of those before a sync or before a file that was there at first.
abbrev pub noted : Kind → (old : List Named) (now : Named) → List Named
noted kinds.Base old now = now ∷ []
noted kinds.Sync old now = now ∷ []
noted kinds.FolderSync old now = now ∷ []
noted kinds.Open old now = last_kept old ++ now ∷ []
noted kinds.Write old now = last_kept old ++ now ∷ []
noted kinds.Cut old now = last_kept old ++ now ∷ []
noted kinds.Unlink old now = last_kept old ++ now ∷ []
noted kinds.Rename old now = last_kept old ++ now ∷ []
noted kinds.Close old now = old
noted kinds.Mark old now = old
noted kinds.NotHeld old now = old
noted kinds.End old now = old

-- all that was written up to one of these calls is down, and nothing later
abbrev pub IsPrefix : Files → (versions : List Named) → Image → Type 0
IsPrefix s versions image = (v : Named) × Contains versions v × IsVersion s v image

-- a version of a file with the oldest value of a sector, or its least length
abbrev pub without_piece : Piece → Option FileNamed → Option FileNamed
without_piece piece None = None
without_piece (Sector k) (Some v) = Some (record v { naming = record v.naming { pick = set v.naming.pick k 0 } })
without_piece Length (Some v) = Some (record v { naming = record v.naming { len = Some 0 } })

-- the same of one of the files
abbrev pub without : Which → Piece → Named → Named
without Db piece v = record v { db = without_piece piece v.db }
without Wal piece v = record v { wal = without_piece piece v.wal }
without Journal piece v = record v { journal = without_piece piece v.journal }

abbrev pub in_version : Which → Named → Option FileNamed
in_version Db v = v.db
in_version Wal v = v.wal
in_version Journal v = v.journal

abbrev pub numbers_in : Option FileNamed → List ℕ
numbers_in None = []
numbers_in (Some v) = v.naming.pick

-- what may not be down: a sector with an older value, or the length
abbrev pub IsOpen : Option FileNamed → Piece → Type 0
IsOpen v (Sector k) = 0 < get_or (numbers_in v) k 0
IsOpen v Length = Unit {0}

-- so many sectors as any of the files has
abbrev pub most_sectors : Named → ℕ
most_sectors v = max (max (length (numbers_in v.db)) (length (numbers_in v.wal))) (length (numbers_in v.journal))

-- all is down but one sector or one length
pub record IsAllButOne (s : Files) (image : Image) : Type 0 where
  pub which : Which
  pub piece : Piece
  pub may : IsOpen (in_version which (version_now s)) piece
  pub is : IsVersion s (without which piece (version_now s)) image

-- one of the likeliest images
abbrev pub IsLikely : Files → (versions : List Named) → Image → Type 0
IsLikely s versions image = IsPrefix s versions image ⊎ IsAllButOne s image
