use Rattle.std.proofs.Common.{subst}
use Rattle.std.proofs.lemmas.Result.{MatchResult-weaker}
use Rattle.rig_play.specs.Plays.{files_of}
use Rattle.rig_play.specs.declared.meta.Epoch.{Epoch}
use Rattle.rig_images.specs.Left.{MayLeaveIn}
use Rattle.rig_images.proofs.redraws.draw_now.Goals as goal

pub returns : goal.returns
returns g c = MatchResult-weaker c.draw_in.result c.draw_in.ensures (λ done left. subst (λ (e : Epoch). MayLeaveIn (files_of c.args.player.now) e c.draw_in.new.image) c.epoch.ensures left) (λ e no. no)
