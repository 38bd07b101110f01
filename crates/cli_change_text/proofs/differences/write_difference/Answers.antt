use Rattle.std.proofs.Common.{◌++◌, List, ℕ, codes, refl}
use Rattle.std.specs.Prelude.{slice_get}
use Rattle.std.specs.Io.KnownBytes.{Appends}
use Rattle.std.proofs.KnownBytes.{Appends-trans}
use Rattle.sqval.specs.Datum.{datum_of}
use Rattle.cli_row_text.specs.Lines.{IsText, form_of}
use Rattle.cli_row_text.specs.declared.form.Notation.TheVariants.{Sql}
use Rattle.cli_change_text.specs.Changes.{IsDifference, mark_of}
use Rattle.cli_change_text.specs.Names.{column_text, names_of}
use Rattle.cli_change_text.proofs.Answered.{on_ok}
use Rattle.cli_change_text.proofs.differences.write_difference.Goals as goal

pub returns : goal.returns
returns g c =
    let o0 = g.W.Write.contents c.args.out.now in
    let o1 = g.W.Write.contents c.write_mark.new.out in
    let o2 = g.W.Write.contents c.write_column.new.out in
    let o3 = g.W.Write.contents c.write_all.new.self in
    let o4 = g.W.Write.contents c.write_value.new.out in
    let o5 = g.W.Write.contents c.write_all-2.new.self in
    let o6 = g.W.Write.contents c.write_value-2.new.out in
    let columns = c.args.style.columns.now in
    let j = c.args.j in
    let mark = mark_of c.args.begun in
    let name = column_text (slice_get (names_of columns) j) j in
    let named = rw c.deref.ensures.value at c.in_ok-write_column.ensures in
    let was = c.in_ok-write_value.ensures in
    on_ok c.write_value-2.result ((t : List ℕ) × IsText (form_of Sql c.args.style.encoding) (datum_of c.args.new) t × Appends o5 o6 t)
    ((t : List ℕ) × IsDifference c.args.style.encoding columns c.args.begun j (datum_of c.args.old) (datum_of c.args.new) t × Appends o0 o6 t)
    (λ is. (
      mark ++ (name ++ (codes " " ++ (was.0 ++ (codes " -> " ++ is.0)))),
      (was.0, is.0, was.1, is.1, refl),
      Appends-trans o0 o1 o6 mark (name ++ (codes " " ++ (was.0 ++ (codes " -> " ++ is.0)))) c.in_ok-write_mark.ensures
          (Appends-trans o1 o2 o6 name (codes " " ++ (was.0 ++ (codes " -> " ++ is.0))) named
          (Appends-trans o2 o3 o6 (codes " ") (was.0 ++ (codes " -> " ++ is.0)) c.in_ok-write_all.ensures.bytes
          (Appends-trans o3 o4 o6 was.0 (codes " -> " ++ is.0) was.2 (Appends-trans o4 o5 o6 (codes " -> ") is.0 c.in_ok-write_all-2.ensures.bytes is.2)))),
    )) c.write_value-2.ensures
