use Rattle.std.proofs.Common.{List, ℕ, [], Option, inl, inr, refl, sym, subst}
use Rattle.std.specs.Io.KnownBytes.{Appends}
use Rattle.std.proofs.KnownBytes.{Appends-nil}
use Rattle.cli_text.specs.Headers.{members_text}
use Rattle.cli_show.specs.Reports.{IsHeadText}
use Rattle.cli_show.proofs.WrittenLogs.{on_ok}
use Rattle.cli_show.proofs.report.write_head.Goals as goal

pub returns-in-Ok : goal.returns-in-Ok
returns-in-Ok g c =
    let old = g.W.Write.contents c.args.out.now in
    let new = g.W.Write.contents c.write_fields.new.out in
    let fields = members_text c.in-Ok.header in
    let is : IsHeadText c.args.head.now fields =
    subst (λ (h : Option (List ℕ)). IsHeadText h fields) (sym c.in-Some.is) (inl (c.in-Ok.header, c.in-Ok.ensures.ok, refl)) in
    on_ok c.write_fields.result (Appends old new fields) ((text : List ℕ) × IsHeadText c.args.head.now text × Appends old new text)
    (λ written. (fields, is, written)) c.write_fields.ensures

pub returns-in-Err : goal.returns-in-Err
returns-in-Err g c = (
  [],
  subst (λ (h : Option (List ℕ)). IsHeadText h []) (sym c.in-Some.is) (inr (c.in-Err.field-0, c.in-Err.ensures.err, refl)),
  Appends-nil (g.W.Write.contents c.args.out.now),
)
