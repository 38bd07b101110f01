use Rattle.std.proofs.Common.{refl, add-one}
use Rattle.cli_show.proofs.GenerationsInOrder.{begun}
use Rattle.cli_show.proofs.generations.Open.new.Goals as goal

pub returns-clause-going : goal.returns-clause-going
returns-clause-going c = λ size w is. rw add-one (begun size w c.args.number c.args.slot.now _ is refl refl refl refl refl refl)
