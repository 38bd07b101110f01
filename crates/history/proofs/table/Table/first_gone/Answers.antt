use Rattle.std.proofs.Common.{◌≡◌, ◌<◌, length, get_or, ◌∙◌, arith}
use Rattle.std.proofs.lemmas.Grind.{get_or_default_zero}
use Rattle.history.proofs.GreatestSoFar.{all_there, first_gone}
use Rattle.history.proofs.table.Table.first_gone.Goals as goal

pub returns-then-frame-index : goal.returns-then-frame-index
returns-then-frame-index c = λ until are.
    let items = c.args.self.now.greatest.items in
    let k = c.loop-before.before in
    let lt : k < length items = omega arith in
    let at : c.index.result.now ≡ get_or items k 0 = c.index.ensures ∙ get_or_default_zero items k c.index.result.now lt in
    first_gone until items are c.args.frame c.args.pages c.requires k c.loop-before-test.true c.loop-before.invariant (omega (arith, at))

pub returns : goal.returns
returns c = λ until are. all_there until c.args.self.now.greatest.items are c.args.frame c.args.pages c.requires
    (λ i lt. c.loop-before.invariant i (omega arith))
