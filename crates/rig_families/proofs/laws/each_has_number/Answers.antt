use Rattle.rig_families.proofs.LikeliestImages.{each_likely, likely_at}
use Rattle.rig_families.proofs.laws.each_has_number.Goals as goal

pub returns : goal.returns
returns c = λ s versions image. (λ likely. each_likely s versions image likely, λ at. likely_at s versions at.0 image at.2)
