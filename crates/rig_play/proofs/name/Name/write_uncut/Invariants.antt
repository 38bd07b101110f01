use Rattle.rig_play.specs.Names.{TakesBelow, name_of}
use Rattle.rig_play.proofs.UncutFiles.{UncutGone}
use Rattle.rig_play.proofs.name.Name.write_uncut.Given as goal

abbrev pub invariant-loop-k : goal.invariant-loop-k
invariant-loop-k l = UncutGone (TakesBelow l.fn.self.below l.at l.bytes l.fails) l.k (name_of l.fn.self) (name_of l.self)
