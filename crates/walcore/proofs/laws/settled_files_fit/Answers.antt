use Rattle.walcore.proofs.Facts.{beside_fits, left_made, opened_shows}
use Rattle.walcore.proofs.laws.settled_files_fit.Goals as goal

pub returns-clause-fits : goal.returns-clause-fits
returns-clause-fits c size base logs files s suits held made file durable shows = beside_fits size base logs files s file durable shows suits held made

pub returns-clause-made : goal.returns-clause-made
returns-clause-made c size log fit = left_made size log fit

pub returns-clause-shown : goal.returns-clause-shown
returns-clause-shown c size files s pages may = opened_shows size files s pages may
