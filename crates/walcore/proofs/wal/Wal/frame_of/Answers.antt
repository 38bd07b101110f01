use Rattle.walcore.proofs.Facts.{arith}
use Rattle.walcore.proofs.read.ContentOfReadPage.{found_frame}
use Rattle.walcore.proofs.wal.Wal.frame_of.Goals as goal

pub returns-clause-last : goal.returns-clause-last
returns-clause-last g c = λ past number fits token opened one.
    found_frame c.args.self.now.core _ past number c.args.reader.now c.args.page _ fits token opened one (c.find.ensures.newest (λ z. omega arith))
