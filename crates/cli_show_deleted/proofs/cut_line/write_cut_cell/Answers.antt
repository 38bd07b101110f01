use Rattle.std.proofs.Common.{◌++◌}
use Rattle.std.proofs.KnownBytes.{Appends-trans}
use Rattle.std.proofs.lemmas.Result.{on_ok_weaker}
use Rattle.cli_show_deleted.specs.CutLines.{cut_place_text}
use Rattle.cli_show_deleted.specs.Lines.{opening_text, end_text}
use Rattle.cli_show_deleted.proofs.cut_line.write_cut_cell.Goals as goal

pub returns : goal.returns
returns g c =
    let notation = c.args.form.notation in
    let cell = c.args.cell.now in
    let old = g.W.Write.contents c.args.out.now in
    let opened = g.W.Write.contents c.write_opening.new.out in
    let placed = g.W.Write.contents c.write_cut_place.new.out in
    let held = g.W.Write.contents c.write_values.new.out in
    let new = g.W.Write.contents c.write_end.new.out in
    let e = c.in_ok-write_values.ensures in
    let tail = end_text notation in
    on_ok_weaker c.write_end.result (λ last. (
      e.0,
      e.1,
      Appends-trans old opened new (opening_text c.args.mark notation) (cut_place_text notation cell ++ (e.0 ++ tail)) c.in_ok-write_opening.ensures
          (Appends-trans opened placed new (cut_place_text notation cell) (e.0 ++ tail) c.in_ok-write_cut_place.ensures (Appends-trans placed held new e.0 tail e.2 last)),
    )) c.write_end.ensures
