use Rattle.walcore.proofs.Facts.{during, refl, rules, still}
use Rattle.walcore.proofs.read.StepsOfReaders.{begin_done, begin_memory}
use Rattle.walcore.proofs.wal.Wal.begin.Goals as goal

pub returns-in-Ok-clause-begins : goal.returns-in-Ok-clause-begins
returns-in-Ok-clause-begins g c = during (search rules) (λ word past fits.
    begin_done c.args.self.now.core _ _ _ past fits
    (record { page_size = refl; is_open = refl; drained = refl; header = refl; sum = refl; frames = refl; mark = refl; last_page = refl; size = refl; used = refl; unsynced = refl; index = refl })
    (still _ (g.met.D.Disk.sound c.args.self.now.disk word)) refl (record { mark = c.args.self.now.core.mark; size = c.args.self.now.core.size }) c.if-not-self.false c.in-Ok.ensures.items refl refl)

pub returns-in-Err-clause-begins : goal.returns-in-Err-clause-begins
returns-in-Err-clause-begins g c = during (search rules) (λ word past fits.
    begin_memory c.args.self.now.core _ _ _ past fits
    (record { page_size = refl; is_open = refl; drained = refl; header = refl; sum = refl; frames = refl; mark = refl; last_page = refl; size = refl; used = refl; unsynced = refl; index = refl })
    (still _ (g.met.D.Disk.sound c.args.self.now.disk word)) refl c.if-not-self.false c.in-Err.ensures.items)

pub returns-in-Err-clause-kept : goal.returns-in-Err-clause-kept
returns-in-Err-clause-kept g c = record {
  page_size = refl;
  is_open = refl;
  drained = refl;
  header = refl;
  sum = refl;
  frames = refl;
  mark = refl;
  last_page = refl;
  size = refl;
  used = refl;
  unsynced = refl;
  index = refl;
  marks = c.in-Err.ensures.items;
}
