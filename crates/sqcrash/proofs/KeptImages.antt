-- Images that are given to be kept.
use Rattle.std.proofs.Common.{ℕ, List, [], Option, Some, None, sym}
use Rattle.std.proofs.lemmas.List.{append-nil}
use Rattle.rig_images.specs.declared.image.Image.{Image}
use Rattle.sqcrash.specs.Keeping.{Keeps}

-- none is given
pub keeps_none : (old : Option (List (ℕ × Image))) → Keeps old old []
keeps_none None = tt
keeps_none (Some images) = sym (append-nil images)
