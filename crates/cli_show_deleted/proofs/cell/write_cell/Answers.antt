use Rattle.std.proofs.Common.{◌++◌, rules, SFits, subst, to_z-of_z, w64}
use Rattle.std.specs.Prelude.{ℤ}
use Rattle.std.specs.Io.KnownBytes.{Appends}
use Rattle.std.proofs.KnownBytes.{Appends-trans}
use Rattle.std.proofs.lemmas.Result.{on_ok_weaker}
use Rattle.cli_row_text.specs.Lines.{integer_text}
use Rattle.cli_show_deleted.specs.Lines.{opening_text, place_text, colon_text, tail_text}
use Rattle.cli_show_deleted.proofs.cell.write_cell.Goals as goal

pub returns : goal.returns
returns g c =
    let notation = c.args.form.notation in
    let cell = c.args.cell.now in
    let old = g.W.Write.contents c.args.out.now in
    let opened = g.W.Write.contents c.write_opening.new.out in
    let placed = g.W.Write.contents c.write_place.new.out in
    let named = g.W.Write.contents c.write_integer.new.out in
    let colon = g.W.Write.contents c.write_colon.new.out in
    let held = g.W.Write.contents c.write_values.new.out in
    let new = g.W.Write.contents c.write_tail.new.out in
    let e = c.in_ok-write_values.ensures in
    let tail = tail_text notation cell in
    let fits : SFits w64 cell.rowid = search rules in
    let id = integer_text notation cell.rowid in
    let told = subst (λ (n : ℤ). Appends placed named (integer_text notation n)) (to_z-of_z fits) c.in_ok-write_integer.ensures in
    on_ok_weaker c.write_tail.result (λ last. (
      e.0,
      e.1,
      Appends-trans old opened new (opening_text c.args.mark notation) (place_text notation cell ++ (id ++ (colon_text notation ++ (e.0 ++ tail)))) c.in_ok-write_opening.ensures
          (Appends-trans opened placed new (place_text notation cell) (id ++ (colon_text notation ++ (e.0 ++ tail))) c.in_ok-write_place.ensures
          (Appends-trans placed named new id (colon_text notation ++ (e.0 ++ tail)) told
          (Appends-trans named colon new (colon_text notation) (e.0 ++ tail) c.in_ok-write_colon.ensures (Appends-trans colon held new e.0 tail e.2 last)))),
    )) c.write_tail.ensures
