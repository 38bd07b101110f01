use Rattle.walcore.proofs.Facts.{first_permits, made_passes, makes_once, makes_some}
use Rattle.walcore.proofs.logs.logs_are_determined.Goals as goal

pub returns-clause-once : goal.returns-clause-once
returns-clause-once c size sector tears old act answer new other h g = makes_once size sector tears old act answer new other h g

pub returns-clause-some : goal.returns-clause-some
returns-clause-some c sector tears s old act answer b a t is has fit h = makes_some sector tears s old act answer b a t is has fit h

pub returns-clause-first : goal.returns-clause-first
returns-clause-first c salts db answer = first_permits salts db answer

pub returns-clause-made : goal.returns-clause-made
returns-clause-made c logs e has = made_passes logs e has
