use Rattle.std.proofs.Common.{refl}
use Rattle.cli_show.proofs.generations.Generations.new.Goals as goal

pub returns : goal.returns
returns c = λ size w first. (refl, c.new.ensures.items)
