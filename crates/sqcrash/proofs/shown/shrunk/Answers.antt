use Rattle.std.proofs.Common.{subst}
use Rattle.rig_play.specs.Plays.{Files}
use Rattle.rig_shrink.specs.Shrunk.{IsShrunk}
use Rattle.sqcrash.specs.Runs.{run_of}
use Rattle.sqcrash.specs.Surveys.{IsFoundAs}
use Rattle.sqcrash.proofs.shown.shrunk.Goals as goal

pub returns : goal.returns
returns c = subst (λ (s : Files). IsShrunk (IsFoundAs (run_of c.args.run.now) c.args.judgment) s c.args.size.bytes c.args.image.now c.in_ok-shrunk.shrunk) c.player.ensures c.in_ok-shrunk.ensures
