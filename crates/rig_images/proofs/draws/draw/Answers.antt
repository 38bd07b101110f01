use Rattle.std.proofs.lemmas.Result.{MatchResult-weaker}
use Rattle.rig_images.proofs.draws.draw.Goals as goal

pub returns : goal.returns
returns g c = MatchResult-weaker c.draw_in.result c.draw_in.ensures (λ done left. (c.draw_epoch-epoch.result, c.draw_epoch-epoch.ensures, left)) (λ e no. no)
