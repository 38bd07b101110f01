use Rattle.std.proofs.Common.{arith}
use Rattle.sqview.proofs.openings.ShownOrRefusedView.{alone_bare}
use Rattle.sqview.proofs.view.opening.logged_by.Goals as goal

pub returns-in-Some-clause-right : goal.returns-in-Some-clause-right
returns-in-Some-clause-right g c = λ right ok took journal cold.
    c.committed.ensures.right right ok took (c.in-Some.ensures _ (g.F.FileBytes.bytes c.args.log) took).1.valid journal cold

pub returns-in-None-clause-right : goal.returns-in-None-clause-right
returns-in-None-clause-right g c = λ right ok took journal cold.
    let w = g.F.FileBytes.bytes c.args.log in
    let alone = alone_bare c.args.limits (g.F.FileBytes.bytes c.args.db) w journal cold (λ header. omega (arith, header.whole, c.in-None.ensures _ w took)) in
    c.own.ensures.right right ok w journal alone.0 alone.1
