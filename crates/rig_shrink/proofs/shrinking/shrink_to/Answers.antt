use Rattle.rig_play.specs.Plays.{files_of}
use Rattle.rig_shrink.proofs.PiecesDown.{below_first}
use Rattle.rig_shrink.proofs.shrinking.shrink_to.Goals as goal

pub loop-round-init : goal.loop-round-init
loop-round-init g c = below_first (g.F.Finder.says c.args.finder.now) (files_of c.args.player.now) c.args.size.bytes c.args.present.now c.args.first.now c.in-Ok.image c.in-Ok.ensures

pub loop-round-preserved : goal.loop-round-preserved
loop-round-preserved g c = c.in_ok-taken.ensures.below c.args.first.now c.loop-round.invariant

pub returns-then-not-taken : goal.returns-then-not-taken
returns-then-not-taken g c = record { below = c.in_ok-taken.ensures.below c.args.first.now c.loop-round.invariant; least = c.in_ok-taken.ensures.least c.if-not-taken.true }
