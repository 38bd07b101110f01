use Rattle.rollcore.proofs.Facts.{settled_read}
use Rattle.rollcore.proofs.reading.ReplayLogScanRollError.is_settled.Goals as goal

pub returns : goal.returns
returns c = λ most w at over bytes took. settled_read w c.args.self.now at took (c.is_over.ensures.settled over _ took)
