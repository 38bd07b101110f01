use Rattle.std.proofs.Common.{List, ℕ, inr}
use Rattle.std.proofs.KnownBytes.{Appends-trans}
use Rattle.std.proofs.lemmas.Result.{IfErr-weaker, on_ok_weaker}
use Rattle.cli_show_places.specs.Lines.{head_text, places_text}
use Rattle.cli_show_places.specs.Stops.{AreCellsStopped, IsTableStopped}
use Rattle.cli_show_places.proofs.table.print_table.Goals as goal

pub returns-in-Ok-clause-ok : goal.returns-in-Ok-clause-ok
returns-in-Ok-clause-ok g c = λ right tells.
    let old = g.W.Write.contents c.args.out.now in
    let mid = g.W.Write.contents c.write_head.new.out in
    let new = g.W.Write.contents c.print_cells.new.out in
    let head : List ℕ = head_text c.args.form c.args.table.now.name.items in
    on_ok_weaker c.print_cells.result
    (λ placed. (placed.0, placed.1, Appends-trans old mid new head (places_text g.S.Framed.frames c.args.form.style placed.0) c.in-Ok.ensures placed.2))
    (c.print_cells.ensures.ok right tells)

pub returns-in-Ok-clause-err : goal.returns-in-Ok-clause-err
returns-in-Ok-clause-err g c = λ right tells.
    let d = g.S.PageSource.pages c.args.source.now in
    let frames = g.S.Framed.frames in
    let old = g.W.Write.contents c.args.out.now in
    let mid = g.W.Write.contents c.write_head.new.out in
    let new = g.W.Write.contents c.print_cells.new.out in
    let o = c.args.table.now in
    IfErr-weaker c.print_cells.result (λ stop. AreCellsStopped d frames c.args.form.style o.root stop mid new) (λ stop. IsTableStopped d frames c.args.form o stop old new)
    (λ stop stopped. inr (mid, c.in-Ok.ensures, stopped)) (c.print_cells.ensures.err right tells)
