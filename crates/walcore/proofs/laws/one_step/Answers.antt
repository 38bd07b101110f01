use Rattle.walcore.proofs.Facts.{step_of}
use Rattle.walcore.proofs.laws.one_step.Goals as goal

pub returns-clause-answer : goal.returns-clause-answer
returns-clause-answer c old act answer b a new h = step_of old act answer b a new h
