use Rattle.rollcore.proofs.Facts.{fits_disk_still, fits_still}
use Rattle.rollcore.proofs.laws.a_look_fits.Goals as goal

pub returns-clause-core : goal.returns-clause-core
returns-clause-core c past core old new still fits = fits_still past core old new still fits

pub returns-clause-alone : goal.returns-clause-alone
returns-clause-alone c past old new still fits = fits_disk_still past old new still fits
