use Rattle.std.proofs.Common.{◌≡◌, ◌-◌, ◌<◌, ◌≤◌, length, get_or, ◌∙◌, arith}
use Rattle.std.proofs.lemmas.Grind.{get_or_default_zero}
use Rattle.std.proofs.lemmas.Bool.Decides.{nat_tests}
use Rattle.history.proofs.GreatestSoFar.{there_by_last, last_by_there}
use Rattle.history.proofs.table.Table.is_known.Goals as goal

pub returns-else-pages-eq0 : goal.returns-else-pages-eq0
returns-else-pages-eq0 c = λ until are.
    let items = c.args.self.now.greatest.items in
    let last = c.args.pages - 1 in
    let lt : last < length items = omega (arith, c.requires, c.if-pages-eq0.false) in
    let at : c.index.result.now ≡ get_or items last 0 = c.index.ensures ∙ get_or_default_zero items last c.index.result.now lt in
    let some : 1 ≤ c.args.pages = omega (arith, c.if-pages-eq0.false) in (
      λ low. let le : c.index.result.now ≤ c.args.frame = grind (arith, nat_tests) in
          there_by_last until items are c.args.frame c.args.pages c.requires some (omega (arith, at)),
      λ all. let le : c.index.result.now ≤ c.args.frame = omega (arith, at, last_by_there until items are c.args.frame c.args.pages c.requires some all) in grind (arith, nat_tests),
    )
