-- A version that is put in place of an image (own).
use Rattle.std.specs.Prelude.{ℕ, List, Bool, Option}
use Rattle.std.specs.Bool.{MatchBool}
use Rattle.rig_play.specs.Names.{NameState}
use Rattle.rig_play.specs.Plays.{Files}
use Rattle.rig_play.specs.declared.meta.Holds.{Holds}
use Rattle.rig_images.specs.Left.{MayBeLeft, MayLeave, MayLeaveIn}
use Rattle.rig_images.specs.declared.image.Image.{Image}
use Rattle.rig_families.specs.Versions.{FileNamed, Named, IsLeftUnder, IsVersion}
use Rattle.rig_families.specs.Members.{IsPieceAt}

-- a version of what is under a name was put there, and a crash may leave it; or the name can't hold it
abbrev pub IsPut : NameState → Holds → Option FileNamed → List ℕ → Bool → Type 0
IsPut s holds v bytes made =
    MatchBool made (IsLeftUnder s holds v bytes × MayBeLeft s holds bytes) ((other : List ℕ) → ¬ IsLeftUnder s holds v other)

-- the image in which all is down but the piece of a number was made, and a crash may leave it; or there is none
abbrev pub IsPieceMade : Files → Named → (m : ℕ) → Image → Bool → Type 0
IsPieceMade s now m image made = MatchBool made (IsPieceAt s now m image × MayLeave s image) ((other : Image) → ¬ IsPieceAt s now m other)

-- the files in a version were made an image, which a crash may leave; or it can't leave them in that version
abbrev pub IsMade : Files → Named → Image → Bool → Type 0
IsMade s v image made = MatchBool made (IsVersion s v image × MayLeaveIn s v.epoch image) ((other : Image) → ¬ IsVersion s v other)
