use Rattle.walcore.proofs.Facts.{kept_runs, sane_runs, sane_start, start}
use Rattle.walcore.proofs.laws.what_is_durable_stays.Goals as goal

pub returns : goal.returns
returns c page_size base before later old new count after h g =
    kept_runs old count later new after (sane_runs (start page_size base) 0 before old count (sane_start page_size base) h) g
