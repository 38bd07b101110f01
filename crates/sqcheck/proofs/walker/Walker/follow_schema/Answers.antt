use Rattle.sqcheck.proofs.Words.{[], false, first_root_spot, refl}
use Rattle.sqcheck.proofs.walker.Walker.follow_schema.Goals as goal

pub returns-clause-walks : goal.returns-clause-walks
returns-clause-walks g c = λ right visited w. c.follow_from.ensures.walks right false visited [] first_root_spot w (record { page = refl; stands = refl; role = refl; proper = tt; kind = refl }) (λ on f. f)
