-- The likeliest images, by their numbers (own).
use Rattle.std.specs.Prelude.{◌≢◌, ◌⊎◌, ℕ, ◌+◌, ◌-◌, ◌*◌, ◌/◌, ◌%◌, ◌<◌, ◌≤◌, Bool, cond, nat_eq, nat_lt, List, length, get_or, Option, Some, None}
use Rattle.std.specs.Bool.{MatchBool}
use Rattle.std.specs.List.{Contains}
use Rattle.rig_play.specs.Plays.{Files, epochs_of}
use Rattle.rig_images.specs.Left.{MayBeLeft, MayLeave}
use Rattle.rig_images.specs.Torn.{name_in, holds_in, bytes_in}
use Rattle.rig_images.specs.declared.image.Image.{Image}
use Rattle.rig_images.specs.declared.torn.Which.{Which}
use Rattle.rig_images.specs.declared.torn.Which.TheVariants.{Db, Wal, Journal}
use Rattle.rig_families.specs.Versions.{Named, IsLeftUnder, IsVersion}
use Rattle.rig_families.specs.Families.{IsOpen, in_version, most_sectors, without}
use Rattle.rig_families.specs.declared.version.Piece.{Piece}
use Rattle.rig_families.specs.declared.version.Piece.TheVariants.{Sector, Length}

-- the files in turn, and of each its length and then its sectors
abbrev pub which_by : (r : ℕ) → Which
which_by r = cond (nat_eq r 0) Db (cond (nat_eq r 1) Wal Journal)

abbrev pub piece_at : (m : ℕ) → Piece
piece_at m = cond (nat_lt m 3) Length (Sector (m / 3 - 1))

-- all is down but the piece of this number
abbrev pub IsPieceAt : Files → Named → (m : ℕ) → Image → Type 0
IsPieceAt s now m image =
    IsOpen (in_version (which_by (m % 3)) now) (piece_at m) × IsVersion s (without (which_by (m % 3)) (piece_at m) now) image

-- the image of this number: those of the versions come first
abbrev pub IsMemberAt : Files → List Named → Named → (n : ℕ) → Image → Type 0
IsMemberAt s versions now n image =
    ((n < length versions) × IsVersion s (get_or versions n now) image) ⊎ ((length versions ≤ n) × IsPieceAt s now (n - length versions) image)

-- how many there are, at most
abbrev pub member_count : List Named → Named → ℕ
member_count versions now = length versions + 3 * (most_sectors now + 1)

-- the image of this number was made, and a crash may leave it; or there is none
abbrev pub IsMember : Files → List Named → Named → (n : ℕ) → Image → Bool → Type 0
IsMember s versions now n image made = MatchBool made (IsMemberAt s versions now n image × MayLeave s image) ((other : Image) → ¬ IsMemberAt s versions now n other)

-- what the present version has of a file stands there, and a crash may leave it
abbrev pub IsThere : Files → Named → Which → Image → Type 0
IsThere s now w image =
    IsLeftUnder (name_in w s) (holds_in w now.epoch) (in_version w now) (bytes_in w image) × MayBeLeft (name_in w s) (holds_in w now.epoch) (bytes_in w image)

-- all but this file is there; nothing is said where there is none
abbrev pub IsKept : Files → Named → Option Which → Image → Type 0
IsKept s now None image = Unit {0}
IsKept s now (Some w) image = Contains (epochs_of s) now.epoch × ((v : Which) → v ≢ w → IsThere s now v image)
