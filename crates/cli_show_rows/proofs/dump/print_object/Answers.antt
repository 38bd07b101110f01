use Rattle.cli_show_rows.specs.Dumps.{IsInTurn}
use Rattle.cli_show_rows.specs.Stops.{IsObjectStopped}
use Rattle.cli_show_rows.proofs.TablesStopped.{on_err}
use Rattle.cli_show_rows.proofs.dump.print_object.Goals as goal

pub returns-then-is_in_turn-clause-err : goal.returns-then-is_in_turn-clause-err
returns-then-is_in_turn-clause-err g c = λ right.
    let d = g.S.PageSource.pages c.args.source.now in
    let old = g.W.Write.contents c.args.out.now in
    let new = g.W.Write.contents c.print_taken.new.out in
    let o = c.args.object.now in
    on_err c.print_taken.result (λ stop. IsObjectStopped d c.args.form c.args.turn o stop old new) (λ stop. IsInTurn c.args.turn o × IsObjectStopped d c.args.form c.args.turn o stop old new)
    (λ stop stopped. (c.is_in_turn.ensures.yes c.if-is_in_turn.true, stopped)) (c.print_taken.ensures.err right)
