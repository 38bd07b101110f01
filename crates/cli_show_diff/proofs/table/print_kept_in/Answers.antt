use Rattle.cli_show_diff.proofs.TablesPrinted.{kept_printed, kept_stopped}
use Rattle.cli_show_diff.proofs.table.print_kept_in.Goals as goal

pub returns-clause-ok : goal.returns-clause-ok
returns-clause-ok g c = λ right too is by.
    kept_printed (g.S.PageSource.pages c.args.old.now) (g.T.PageSource.pages c.args.new.now) c.args.tables.0.now c.args.tables.1.now c.args.style.writing
    (g.W.Write.contents c.args.out.now) (g.W.Write.contents c.print_both.new.out) c.args.style c.print_both.result (c.print_both.ensures.ok right too) c.requires.of is by

pub returns-clause-err : goal.returns-clause-err
returns-clause-err g c = λ right too is by.
    kept_stopped (g.S.PageSource.pages c.args.old.now) (g.T.PageSource.pages c.args.new.now) c.args.tables.0.now c.args.tables.1.now c.args.style.writing
    (g.W.Write.contents c.args.out.now) (g.W.Write.contents c.print_both.new.out) c.args.style c.print_both.result (c.print_both.ensures.err right too) c.requires.of is by
