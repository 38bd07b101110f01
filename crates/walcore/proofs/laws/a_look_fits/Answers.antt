use Rattle.walcore.proofs.Facts.{fits_disk_still, fits_same, refl, same_core}
use Rattle.walcore.proofs.laws.a_look_fits.Goals as goal

pub returns-clause-alone : goal.returns-clause-alone
returns-clause-alone c past old new still fits = record { disk = fits_disk_still old new still past fits.disk; count = fits.count }

pub returns-clause-core : goal.returns-clause-core
returns-clause-core c past core old new still fits = fits_same core core old new (same_core core) still past refl fits
