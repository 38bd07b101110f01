use Rattle.std.proofs.Common.{◌++◌, ◌∙◌, List, Option, ℕ, refl, subst}
use Rattle.std.specs.Io.KnownBytes.{Appends}
use Rattle.std.proofs.KnownBytes.{Appends-trans}
use Rattle.sqval.specs.Datum.{datum_of}
use Rattle.cli_row_text.specs.declared.form.Notation.{Notation}
use Rattle.cli_row_text.specs.Lines.{IsText, form_of}
use Rattle.cli_change_text.specs.Names.{IsKeyColumn, compared_by, label_in, mark_at, sign_in, stored_name}
use Rattle.cli_change_text.proofs.Answered.{on_ok}
use Rattle.cli_change_text.proofs.name.write_key_column.Goals as goal

pub returns : goal.returns
returns g c =
    let o0 = g.W.Write.contents c.args.out.now in
    let o1 = g.W.Write.contents c.write_all.new.self in
    let o2 = g.W.Write.contents c.write_label.new.out in
    let o3 = g.W.Write.contents c.write_all-2.new.self in
    let o4 = g.W.Write.contents c.write_value.new.out in
    let o5 = g.W.Write.contents c.write_all-3.new.self in
    let naming = c.args.naming in
    let place = c.args.place in
    let columns = c.args.style.columns.now in
    let value = datum_of c.args.value in
    let mark = mark_at naming place in
    let label = label_in naming (stored_name columns place) place in
    let sign = sign_in naming in
    let by = compared_by naming c.args.collation value in
    let marked = subst (Appends o0 o1) (c.as_bytes.ensures.value ∙ c.mark_at.ensures) c.in_ok-write_all.ensures.bytes in
    let labelled = subst (λ (name : Option (List ℕ)). Appends o1 o2 (label_in naming name place)) c.stored_name.ensures c.in_ok-write_label.ensures in
    let signed = subst (Appends o2 o3) (c.as_bytes-2.ensures.value ∙ c.sign_in.ensures) c.in_ok-write_all-2.ensures.bytes in
    let w = subst (λ (notation : Notation). (t : List ℕ) × IsText (form_of notation c.args.style.encoding) value t × Appends o3 o4 t) c.notation_in.ensures c.in_ok-write_value.ensures in
    on_ok c.write_all-3.result (Appends o4 o5 c.as_bytes-3.result.now) ((t : List ℕ) × IsKeyColumn c.args.style.encoding naming columns c.args.collation place value t × Appends o0 o5 t)
    (λ last. (
      mark ++ (label ++ (sign ++ (w.0 ++ by))),
      (w.0, w.1, refl),
      Appends-trans o0 o1 o5 mark (label ++ (sign ++ (w.0 ++ by))) marked
          (Appends-trans o1 o2 o5 label (sign ++ (w.0 ++ by)) labelled
          (Appends-trans o2 o3 o5 sign (w.0 ++ by) signed (Appends-trans o3 o4 o5 w.0 by w.2 (subst (Appends o4 o5) (c.as_bytes-3.ensures.value ∙ c.compared_by.ensures) last)))),
    )) c.write_all-3.ensures.bytes
