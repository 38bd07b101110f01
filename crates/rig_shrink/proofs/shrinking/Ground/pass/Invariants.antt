use Rattle.rig_play.specs.Plays.{files_of}
use Rattle.rig_shrink.specs.internal.Trying.{IsPassed}
use Rattle.rig_shrink.proofs.shrinking.Ground.pass.Given as goal

abbrev pub invariant-loop-n : goal.invariant-loop-n
invariant-loop-n g l = IsPassed (g.F.Finder.says l.self.finder.now) (files_of l.self.player.now) l.self.size.bytes l.self.present.now l.n l.taken l.fn.image l.image
