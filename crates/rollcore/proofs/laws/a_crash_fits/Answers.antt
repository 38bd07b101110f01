use Rattle.rollcore.proofs.Facts.{fits_crash}
use Rattle.rollcore.proofs.laws.a_crash_fits.Goals as goal

pub returns : goal.returns
returns c past db log old new crashed whole fits = fits_crash past db log old new crashed whole fits
