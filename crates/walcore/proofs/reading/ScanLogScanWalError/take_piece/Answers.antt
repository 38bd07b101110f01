use Rattle.walcore.proofs.Facts.{fed, not_fed}
use Rattle.walcore.proofs.reading.ScanLogScanWalError.take_piece.Goals as goal

pub returns-in-Ok : goal.returns-in-Ok
returns-in-Ok c = λ most w at old new fits joined took. fed w at c.args.piece.now fits joined most c.feed.new.self old new (c.in-Ok.ensures most _ took).0

pub returns-in-Err : goal.returns-in-Err
returns-in-Err c = λ most w at old new fits joined took. not_fed w at c.args.piece.now fits joined most c.in-Err.error _ _ c.feed.new.self old new (c.in-Err.ensures most _ took).1 c.without_header.ensures
