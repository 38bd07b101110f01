use Rattle.rig_play.specs.Plays.{files_of}
use Rattle.rig_images.specs.Left.{MayLeaveIn}
use Rattle.rig_shrink.proofs.Searches.{NoneBelow}
use Rattle.rig_shrink.proofs.files.may_leave.Given as goal

abbrev pub invariant-loop-i : goal.invariant-loop-i
invariant-loop-i l = NoneBelow (λ e. MayLeaveIn (files_of l.player) e l.image) l.earlier l.i
