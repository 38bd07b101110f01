use Rattle.std.proofs.Common.{◌≡◌, ◌+◌, List, true, false, sym, subst}
use Rattle.std.specs.Prelude.{Some}
use Rattle.cli_show.specs.declared.generations.Generation.{Generation}
use Rattle.cli_show.specs.internal.Generations.{AreReadBefore}
use Rattle.cli_show.proofs.GenerationsInOrder.{another_read, first_read, more_read}
use Rattle.cli_show.proofs.generations.Generations.add.Goals as goal

pub returns-in_default : goal.returns-in_default
returns-in_default c = λ size w first small is read.
    first_read size w first c.args.number c.args.self.now.closed.items c.args.self.now.last c.new.result c.in_default.not-Some read c.new.ensures.from (c.new.ensures.going size w is)

pub returns-then-has : goal.returns-then-has
returns-then-has c = λ size w first small is read.
    more_read size w first c.args.number c.args.self.now.closed.items c.args.self.now.last c.in-Some.last c.grown.result c.in-Some.is read (c.grown.ensures.going size w is small)
    c.grown.ensures.from

pub returns : goal.returns
returns c = λ size w first small is read.
    subst (λ (l : List Generation). AreReadBefore size w first (c.args.number + 1) l (Some c.new-2.result)) (sym c.in_ok-push.ensures.items)
    (another_read size w first c.args.number c.args.slot.now c.args.self.now.closed.items c.args.self.now.last c.in-Some.last c.new-2.result c.in-Some.is is read
    (λ same. let bad : false ≡ true = c.if-has.ensures.1 same in cc) c.new-2.ensures.from (c.new-2.ensures.going size w is))
