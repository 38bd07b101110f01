use Rattle.std.proofs.Common.{◌∙◌, OnOk, inr, sym, subst}
use Rattle.std.specs.Prelude.{IfErr}
use Rattle.std.proofs.lemmas.Result.{IfErr-weaker, on_ok_weaker}
use Rattle.sqview.specs.LogView.{pages_of}
use Rattle.sqview.specs.Shapes.{Shape}
use Rattle.cli_show_frames.specs.Frames.{AreAllStopped, AreFramesPrinted, AreFramesStopped}
use Rattle.cli_show_frames.specs.internal.Seen.{HasFrames, pages_in}
use Rattle.cli_show_frames.proofs.all.print_seen.Goals as goal

pub returns-in-Ok-clause-ok : goal.returns-in-Ok-clause-ok
returns-in-Ok-clause-ok g c = λ gives framed.
    let mid = g.W.Write.contents c.print_deleted.new.out in
    let after = g.W.Write.contents c.print_frame_cells.new.out in
    let same = c.print_deleted.new.source.same ∙ sym c.requires in
    let told = subst (λ (x : Shape). HasFrames x → OnOk c.print_frame_cells.result (AreFramesPrinted x.page_size x.log x.front (pages_in x) c.args.style mid after)) same
    (c.print_frame_cells.ensures.ok (c.in-Ok.ensures.keeps.still_gives gives)) in
    on_ok_weaker c.print_frame_cells.result (λ frames. (mid, c.in-Ok.ensures.ok gives, frames)) (told framed)

pub returns-in-Ok-clause-err : goal.returns-in-Ok-clause-err
returns-in-Ok-clause-err g c = λ gives.
    let v = c.args.view in
    let d = pages_of g.F.FileBytes.bytes v in
    let before = g.W.Write.contents c.args.out.now in
    let mid = g.W.Write.contents c.print_deleted.new.out in
    let after = g.W.Write.contents c.print_frame_cells.new.out in
    let same = c.print_deleted.new.source.same ∙ sym c.requires in
    let told = subst (λ (x : Shape). IfErr c.print_frame_cells.result (λ stop. AreFramesStopped (pages_in x) stop mid after)) same
    (c.print_frame_cells.ensures.err (c.in-Ok.ensures.keeps.still_gives gives)) in
    IfErr-weaker c.print_frame_cells.result (λ stop. AreFramesStopped d stop mid after) (λ stop. AreAllStopped v.page_size d c.args.style stop before after)
    (λ stop stopped. inr (mid, c.in-Ok.ensures.ok gives, stopped)) told
