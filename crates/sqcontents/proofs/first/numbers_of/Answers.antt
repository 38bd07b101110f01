use Rattle.std.proofs.Common.{◌≡◌, length, arith}
use Rattle.std.proofs.lemmas.Grind.{common_steps}
use Rattle.sqcontents.proofs.Headers.{zeros}
use Rattle.sqcontents.proofs.first.numbers_of.Goals as goal

pub returns-then-count-eq0-clause-ok : goal.returns-then-count-eq0-clause-ok
returns-then-count-eq0-clause-ok g c = λ right.
    let none : length (g.S.PageSource.pages c.args.source.now) ≡ 0 = grind (arith, common_steps) in
    zeros (g.S.PageSource.pages c.args.source.now) none
