use Rattle.rollcore.proofs.Facts.{settled_fits}
use Rattle.rollcore.proofs.laws.settled_files_fit.Goals as goal

pub returns : goal.returns
returns c size base files s suits held file durable fits shows = settled_fits size base files.db files.log s file durable shows suits held fits
