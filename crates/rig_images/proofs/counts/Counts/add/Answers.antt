use Rattle.std.proofs.Common.{refl, arith}
use Rattle.rig_images.proofs.counts.Counts.add.Goals as goal

pub returns : goal.returns
returns c = (c.in-Some.more, c.in-Some.ensures.0, c.in_ok-push.ensures.items, refl, omega (arith, c.in-Some.ensures.1, c.requires))
