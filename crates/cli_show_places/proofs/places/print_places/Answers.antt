use Rattle.std.proofs.lemmas.Result.{IfErr-weaker, on_ok_weaker}
use Rattle.sqview.specs.LogView.{pages_of}
use Rattle.sqview.specs.Shapes.{shape_of}
use Rattle.cli_show_places.specs.Frames.{ArePlacesFramed}
use Rattle.cli_show_places.specs.Places.{name_of}
use Rattle.cli_show_places.specs.Stops.{ArePlacesStopped}
use Rattle.cli_show_places.specs.internal.Seen.{frames_in}
use Rattle.cli_show_places.proofs.FramesOfView.{among_right}
use Rattle.cli_show_places.proofs.places.print_places.Goals as goal

pub returns-clause-ok : goal.returns-clause-ok
returns-clause-ok g c = λ right wal framed.
    let v = c.args.view in
    let frames = frames_in (shape_of g.F.FileBytes.bytes v) in
    on_ok_weaker c.print_seen.result (λ placed. (frames, among_right v.page_size wal v.front v.count v.places.items framed, placed)) (c.print_seen.ensures.ok right (λ one. (wal, framed one)))

pub returns-clause-err : goal.returns-clause-err
returns-clause-err g c = λ right wal framed.
    let v = c.args.view in
    let bytes = g.F.FileBytes.bytes in
    let d = pages_of bytes v in
    let frames = frames_in (shape_of bytes v) in
    let old = g.W.Write.contents c.args.out.now in
    let new = g.W.Write.contents c.print_seen.new.out in
    let style = c.args.style in
    let name = name_of c.args.table in
    IfErr-weaker c.print_seen.result (λ stop. ArePlacesStopped d frames style name stop old new) (λ stop. ArePlacesFramed wal v (λ frames. ArePlacesStopped d frames style name stop old new))
    (λ stop stopped. (frames, among_right v.page_size wal v.front v.count v.places.items framed, stopped)) (c.print_seen.ensures.err right (λ one. (wal, framed one)))
