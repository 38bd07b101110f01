use Rattle.std.proofs.Common.{List, ℕ, refl, subst}
use Rattle.sqtext.specs.Texts.{IsStoredAs}
use Rattle.cli_show_rows.proofs.columns.stored_literal.Goals as goal

pub returns-in_ok-encoded-in-Text : goal.returns-in_ok-encoded-in-Text
returns-in_ok-encoded-in-Text c =
    let stored = c.in_ok-encoded-in-Text.field-0.items in
    let is = subst (λ (t : List ℕ). IsStoredAs c.args.encoding t stored) c.deref.ensures.value c.in_ok-encoded-in-Text.ensures in
    rw c.in-Text.is (stored, is, refl)
