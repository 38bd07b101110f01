use Rattle.std.proofs.Common.{◌≡◌, ◌∙◌, ◌∷◌, ◌++◌, [], ℕ, List, ap, refl, subst}
use Rattle.std.specs.Io.KnownBytes.{Appends}
use Rattle.std.specs.List.{flat_map}
use Rattle.std.proofs.KnownBytes.{Appends-trans}
use Rattle.cli_row_text.specs.declared.form.Notation.{Notation}
use Rattle.cli_row_text.specs.declared.form.Notation.TheVariants.{Json, Csv, Sql}
use Rattle.cli_row_text.specs.Lines.{plain_text}
use Rattle.cli_row_text.specs.internal.Quoting.{byte_text, mark_of}
use Rattle.cli_row_text.proofs.TextsOfValues.{on_ok}
use Rattle.cli_row_text.proofs.value.write_utf16.Goals as goal

between : (notation : Notation) (utf8 : List ℕ) → mark_of notation ∷ (flat_map (byte_text notation) utf8 ++ mark_of notation ∷ []) ≡ plain_text notation utf8
between Json utf8 = refl
between Csv utf8 = refl
between Sql utf8 = refl

pub returns : goal.returns
returns g c = λ text is.
    let o0 = g.W.Write.contents c.args.out.now in
    let o1 = g.W.Write.contents c.write_all.new.self in
    let o2 = g.W.Write.contents c.write_chars.new.out in
    let o3 = g.W.Write.contents c.write_all-2.new.self in
    let notation = c.args.notation in
    let mark = c.mark_of-mark.result in
    let inner = flat_map (byte_text notation) text in
    let whole : mark ∷ (inner ++ mark ∷ []) ≡ plain_text notation text = ap (λ (m : ℕ). m ∷ (inner ++ m ∷ [])) c.mark_of-mark.ensures ∙ between notation text in
    on_ok c.write_all-2.result (Appends o2 o3 (mark ∷ [])) (Appends o0 o3 (plain_text notation text))
    (λ last. subst (Appends o0 o3) whole
    (Appends-trans o0 o1 o3 (mark ∷ []) (inner ++ mark ∷ []) c.in_ok-write_all.ensures.bytes (Appends-trans o1 o2 o3 inner (mark ∷ []) (c.in_ok-write_chars.ensures text is) last))) c.write_all-2.ensures.bytes
