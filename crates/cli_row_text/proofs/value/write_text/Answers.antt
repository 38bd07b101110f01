use Rattle.std.proofs.Common.{ℕ, List, inl, inr, refl}
use Rattle.std.specs.Io.KnownBytes.{Appends}
use Rattle.cli_row_text.specs.Lines.{IsTextText, other_text, plain_text}
use Rattle.cli_row_text.proofs.TextsOfValues.{on_ok}
use Rattle.cli_row_text.proofs.value.write_text.Goals as goal

pub returns-then-is_plain : goal.returns-then-is_plain
returns-then-is_plain g c =
    let old = g.W.Write.contents c.args.out.now in
    let new = g.W.Write.contents c.write_plain.new.out in
    let form = c.args.form in
    let p = c.is_plain.ensures.yes c.if-is_plain.true in
    let own = plain_text form.notation p.0 in
    on_ok c.write_plain.result (Appends old new own) ((t : List ℕ) × IsTextText form c.args.bytes.now t × Appends old new t)
    (λ w. (own, inl (p.0, p.1, refl), w)) (c.write_plain.ensures p.0 p.1.0)

pub returns-else-is_plain : goal.returns-else-is_plain
returns-else-is_plain g c =
    let old = g.W.Write.contents c.args.out.now in
    let new = g.W.Write.contents c.write_other.new.out in
    let form = c.args.form in
    let own = other_text form.notation c.args.bytes.now in
    on_ok c.write_other.result (Appends old new own) ((t : List ℕ) × IsTextText form c.args.bytes.now t × Appends old new t)
    (λ w. (own, inr (c.is_plain.ensures.not c.if-is_plain.false, refl), w)) c.write_other.ensures
