use Rattle.sqworld.proofs.Facts.{Checkpoints, answer_of, answered, number_of, stepped_still, sym}
use Rattle.walcore.specs.Bringing.{answer_of as checkpoint_answer}
use Rattle.sqworld.proofs.session.Session.checkpoint.Goals as goal

pub returns-clause-serves : goal.returns-clause-serves
returns-clause-serves c page_size = stepped_still page_size c.args.self.now c.checkpoint.new.self Checkpoints (answered number_of checkpoint_answer c.checkpoint.result) (answer_of c.checkpoint_outcome.result) (sym c.checkpoint_outcome.ensures) (λ size logs calls. calls) (λ past fits may. (c.checkpoint.ensures.disk.holds tt).step past fits)
