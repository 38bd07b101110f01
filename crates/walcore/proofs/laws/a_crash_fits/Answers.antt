use Rattle.walcore.proofs.Facts.{fits_crash}
use Rattle.walcore.proofs.laws.a_crash_fits.Goals as goal

pub returns : goal.returns
returns c past db log old new fits crashed whole = fits_crash past db log old new crashed whole fits
