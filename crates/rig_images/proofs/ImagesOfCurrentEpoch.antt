-- What may be left where all changes of names and lengths are down may be left.
use Rattle.std.proofs.Common.{[], ◌∷◌, refl, arith}
use Rattle.std.proofs.lemmas.List.Elements.{Contains-append_right}
use Rattle.rig_play.specs.Plays.{Files, epoch_now}
use Rattle.rig_images.specs.Left.{MayLeave, MayLeaveIn}
use Rattle.rig_images.specs.declared.image.Image.{Image}

pub now_may_leave : (s : Files) (image : Image) → MayLeaveIn s (epoch_now s) image → MayLeave s image
now_may_leave s image left = (epoch_now s, Contains-append_right s.earlier (epoch_now s ∷ []) (epoch_now s) (0, omega arith, refl), left)
