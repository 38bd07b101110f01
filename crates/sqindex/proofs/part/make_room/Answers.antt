use Rattle.std.proofs.Common.{refl}
use Rattle.sqindex.proofs.part.make_room.Goals as goal

pub returns-clause-ok : goal.returns-clause-ok
returns-clause-ok c = ((refl, λ was. was), λ key seen w. w)
