use Rattle.std.proofs.Common.{inr}
use Rattle.std.proofs.lemmas.Result.{IfErr-weaker}
use Rattle.cli_show_places.specs.Stops.{IsNamedStopped, ArePlacesStopped}
use Rattle.std.specs.Prelude.{Some}
use Rattle.cli_show_places.proofs.places.print_one.Goals as goal

pub returns-clause-err : goal.returns-clause-err
returns-clause-err g c = λ right tells.
    let d = g.S.PageSource.pages c.args.source.now in
    let frames = g.S.Framed.frames in
    let old = g.W.Write.contents c.args.out.now in
    let new = g.W.Write.contents c.print_named.new.out in
    IfErr-weaker c.print_named.result (λ stop. IsNamedStopped d frames c.args.style c.args.name.now stop old new) (λ stop. ArePlacesStopped d frames c.args.style (Some c.args.name.now) stop old new)
    (λ stop stopped. inr stopped) (c.print_named.ensures.err right tells)
