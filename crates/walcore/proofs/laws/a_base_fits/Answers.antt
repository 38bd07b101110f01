use Rattle.walcore.proofs.Facts.{[], base_fits, beside_fits, just_file, just_shows, made_nothing, none_front}
use Rattle.walcore.proofs.laws.a_base_fits.Goals as goal

pub returns-clause-durable : goal.returns-clause-durable
returns-clause-durable c size base bytes s suits held just file durable =
    beside_fits size base [] (record { db = bytes; log = [] }) s file durable (just_shows size bytes [] base just (just_file size base bytes suits.pages just) (none_front size)) suits held (made_nothing size)

pub returns-clause-new : goal.returns-clause-new
returns-clause-new c size sector torn base bytes s pages sectors whole held just is = base_fits size sector torn base bytes s pages held just is sectors whole
