use Rattle.walcore.proofs.Facts.{sane_runs, sane_start, start}
use Rattle.walcore.proofs.laws.runs_are_sane.Goals as goal

pub returns : goal.returns
returns c page_size base moments new after h = sane_runs (start page_size base) 0 moments new after (sane_start page_size base) h
