use Rattle.cli_show_diff.proofs.PairsFound.{at_printed, at_stopped}
use Rattle.cli_show_diff.proofs.turn.print_at.Goals as goal

pub returns-in-Some-clause-ok : goal.returns-in-Some-clause-ok
returns-in-Some-clause-ok g c = λ right too.
    at_printed (g.S.PageSource.pages c.args.old.now) (g.T.PageSource.pages c.args.new.now) c.args.at.1 c.args.form c.args.at.0.now c.in-Some.pair c.in-Some.ensures.0 c.in-Some.ensures.1
    (g.W.Write.contents c.args.out.now) (g.W.Write.contents c.print_pair.new.out) c.print_pair.result (c.print_pair.ensures.ok right too)

pub returns-in-Some-clause-err : goal.returns-in-Some-clause-err
returns-in-Some-clause-err g c = λ right too.
    at_stopped (g.S.PageSource.pages c.args.old.now) (g.T.PageSource.pages c.args.new.now) c.args.at.1 c.args.form c.args.at.0.now c.in-Some.pair c.in-Some.ensures.0 c.in-Some.ensures.1
    (g.W.Write.contents c.args.out.now) (g.W.Write.contents c.print_pair.new.out) c.print_pair.result (c.print_pair.ensures.err right too)
