use Rattle.std.proofs.Common.{refl}
use Rattle.cli_show.proofs.GenerationsInOrder.{with_slot}
use Rattle.cli_show.proofs.generations.Open.grown.Goals as goal

pub returns-clause-going : goal.returns-clause-going
returns-clause-going c = λ size w is small going.
    with_slot size w c.args.number c.args.slot.now c.args.self _ c.is_whole-is_whole.result is going small c.requires.0 c.requires.1 refl refl refl refl
    c.is_whole-is_whole.ensures c.counted.ensures.more c.counted.ensures.same c.is_judged_from.ensures
