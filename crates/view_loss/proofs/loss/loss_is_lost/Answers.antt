use Rattle.view_loss.proofs.Losses.{loss_lost}
use Rattle.view_loss.proofs.loss.loss_is_lost.Goals as goal

pub returns : goal.returns
returns c = loss_lost
