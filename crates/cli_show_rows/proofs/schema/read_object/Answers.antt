use Rattle.std.proofs.Common.{List, ℕ, refl, subst}
use Rattle.sqtext.specs.Texts.{IsReadAs}
use Rattle.cli_show_rows.proofs.schema.read_object.Goals as goal

pub returns : goal.returns
returns c = record {
  kind = subst (λ (b : List ℕ). IsReadAs c.args.encoding b c.in_ok-decoded.field-0.items) c.deref.ensures.value c.in_ok-decoded.ensures;
  name = subst (λ (b : List ℕ). IsReadAs c.args.encoding b c.in_ok-decoded-2.field-0.items) c.deref-2.ensures.value c.in_ok-decoded-2.ensures;
  root = refl;
  sql = subst (λ (b : List ℕ). IsReadAs c.args.encoding b c.in_ok-decoded-3.field-0.items) c.deref-3.ensures.value c.in_ok-decoded-3.ensures;
}
