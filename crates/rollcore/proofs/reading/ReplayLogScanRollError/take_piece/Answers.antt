use Rattle.rollcore.proofs.Facts.{fed, not_fed}
use Rattle.rollcore.proofs.reading.ReplayLogScanRollError.take_piece.Goals as goal

pub returns-in-Ok : goal.returns-in-Ok
returns-in-Ok c = λ most w at old new fits joined took. fed w at c.args.piece.now fits joined c.feed.new.self old new (c.in-Ok.ensures _ took).1

pub returns-in-Err : goal.returns-in-Err
returns-in-Err c = λ most w at old new fits joined took. not_fed w at c.args.piece.now fits joined c.in-Err.error _ _ c.feed.new.self old new (c.in-Err.ensures _ took).0 c.without_header.ensures
