use Rattle.std.proofs.lemmas.Result.{IfErr-weaker}
use Rattle.cli_show_places.specs.Places.{IsTableOf}
use Rattle.cli_show_places.specs.Stops.{IsTableStopped}
use Rattle.cli_show_places.proofs.tables.print_object.Goals as goal

pub returns-then-is_table_of-clause-err : goal.returns-then-is_table_of-clause-err
returns-then-is_table_of-clause-err g c = λ right tells.
    let d = g.S.PageSource.pages c.args.source.now in
    let frames = g.S.Framed.frames in
    let old = g.W.Write.contents c.args.out.now in
    let new = g.W.Write.contents c.print_table.new.out in
    let o = c.args.object.now in
    IfErr-weaker c.print_table.result (λ stop. IsTableStopped d frames c.args.form o stop old new) (λ stop. IsTableOf c.args.own o × IsTableStopped d frames c.args.form o stop old new)
    (λ stop stopped. (c.is_table_of.ensures.yes c.if-is_table_of.true, stopped)) (c.print_table.ensures.err right tells)
