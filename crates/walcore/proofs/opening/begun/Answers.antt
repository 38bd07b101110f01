use Rattle.walcore.proofs.Facts.{new_log_is}
use Rattle.walcore.proofs.opening.begun.Goals as goal

pub returns : goal.returns
returns c = λ is big. new_log_is c.args.header c.args.bytes.now c.zero.result c.add.result is big c.told-bytes c.fits-bytes c.zero.ensures c.add.ensures
