use Rattle.rig_judge.proofs.KnownPages.{known_none}
use Rattle.rig_judge.proofs.near.Near.forget.Goals as goal

pub returns : goal.returns
returns c = λ commit db i e. absurd (known_none _ i c.clear.ensures.items e)
