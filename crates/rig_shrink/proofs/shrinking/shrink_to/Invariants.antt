use Rattle.rig_play.specs.Plays.{files_of}
use Rattle.rig_shrink.specs.Shrunk.{IsBelow}
use Rattle.rig_shrink.proofs.shrinking.shrink_to.Given as goal

abbrev pub invariant-loop-round : goal.invariant-loop-round
invariant-loop-round g l = IsBelow (g.F.Finder.says l.finder) (files_of l.player) l.fn.size.bytes l.present l.first l.image
