use Rattle.walcore.proofs.Facts.{settled_read}
use Rattle.walcore.proofs.reading.ScanLogScanWalError.is_settled.Goals as goal

pub returns : goal.returns
returns c = λ most w at over bytes took. settled_read most w c.args.self.now at bytes ((c.is_over.ensures most _ took).0 over)
