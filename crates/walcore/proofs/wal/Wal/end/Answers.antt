use Rattle.walcore.proofs.Facts.{mark_there, refl, still}
use Rattle.walcore.proofs.read.StepsOfReaders.{end_done}
use Rattle.walcore.proofs.wal.Wal.end.Goals as goal

pub returns-clause-step : goal.returns-clause-step
returns-clause-step g c = λ word past number fits token.
    end_done c.args.self.now.core _ _ _ past fits
    (record { page_size = refl; is_open = refl; drained = refl; header = refl; sum = refl; frames = refl; mark = refl; last_page = refl; size = refl; used = refl; unsynced = refl; index = refl })
    (still _ fits.disk.suits.sound) refl number c.args.reader token
    (c.take_out.ensures (mark_there c.args.self.now.core.marks.items past.tokens number c.args.reader fits.marks token))
