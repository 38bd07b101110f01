-- The likeliest images of a player's files, as they are made (own).
use Rattle.std.specs.Prelude.{◌≡◌, ◌↔◌, ℕ, ◌<◌, List}
use Rattle.rig_play.specs.Plays.{Files}
use Rattle.rig_images.specs.declared.image.Image.{Image}
use Rattle.rig_families.specs.Families.{IsLikely}
use Rattle.rig_families.specs.Members.{IsMemberAt, member_count}
use Rattle.rig_families.specs.Versions.{Named, named_of, version_now}
use Rattle.rig_families.specs.declared.families.Families.{Families}
use Rattle.rig_families.specs.declared.version.Version.{Version}

-- of these versions, and of the files as they are now
pub record AreFamilies (s : Files) (of : List Version) (f : Families) : Type 0 where
  pub versions : f.versions.now ≡ of
  pub present : named_of f.present ≡ version_now s

-- each of the likeliest images has a number below their count, and no other image has one
abbrev pub EachHasNumber : Type 0
EachHasNumber = (s : Files) (versions : List Named) (image : Image)
    → IsLikely s versions image ↔ ((n : ℕ) × (n < member_count versions (version_now s)) × IsMemberAt s versions (version_now s) n image)
