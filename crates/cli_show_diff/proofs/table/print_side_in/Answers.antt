use Rattle.cli_show_diff.proofs.TablesPrinted.{side_printed, side_stopped}
use Rattle.cli_show_diff.proofs.table.print_side_in.Goals as goal

pub returns-clause-ok : goal.returns-clause-ok
returns-clause-ok g c = λ right is by.
    side_printed (g.S.PageSource.pages c.args.source.now) c.args.table.now c.args.comes c.args.style.writing
    (g.W.Write.contents c.args.out.now) (g.W.Write.contents c.print_one.new.out) c.args.style c.print_one.result (c.print_one.ensures.ok right) c.requires.of is by

pub returns-clause-err : goal.returns-clause-err
returns-clause-err g c = λ right is by.
    side_stopped (g.S.PageSource.pages c.args.source.now) c.args.table.now c.args.comes c.args.style.writing
    (g.W.Write.contents c.args.out.now) (g.W.Write.contents c.print_one.new.out) c.args.style c.print_one.result (c.print_one.ensures.err right) c.requires.of is by
