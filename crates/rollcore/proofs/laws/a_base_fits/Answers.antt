use Rattle.rollcore.proofs.Facts.{base_fits, down_fits}
use Rattle.rollcore.proofs.laws.a_base_fits.Goals as goal

pub returns-clause-new : goal.returns-clause-new
returns-clause-new c size sector torn base bytes s pages sectors whole held just is = base_fits size sector torn base bytes s pages sectors whole held just is

pub returns-clause-durable : goal.returns-clause-durable
returns-clause-durable c size base bytes s suits held just file durable = down_fits size base bytes s suits held just file durable
