use Rattle.std.proofs.Common.{◌≡◌, ◌∙◌, ap, sym, subst, ℕ, false}
use Rattle.std.specs.Prelude.{Bool, is_some}
use Rattle.cli_each.specs.Lines.{IsOne, command_at, texts}
use Rattle.cli_each.proofs.OneFile.{behind_none, behind_one, rest_of}
use Rattle.cli_each.proofs.apart.taken_apart.Goals as goal
use Rattle.cli_each.proofs.apart.taken_apart.Goals.{then-is_some, else-is_some, then-is_some-2, else-is_some-2}

pub returns : goal.returns
returns c =
    let at : c.if-is_some.at ≡ command_at (is_some c.starter_of-starter.result) false = elim c.if-is_some.branch [
      | then-is_some w ↦ w.at-is ∙ ap (λ (b : Bool). command_at b false) (sym w.if-is_some.true ∙ c.is_some.ensures)
      | else-is_some w ↦ w.at-is ∙ ap (λ (b : Bool). command_at b false) (sym w.if-is_some.false ∙ c.is_some.ensures)
    ] in
    let from : c.if-is_some-2.from ≡ command_at (is_some c.starter_of-starter.result) (is_some c.one_at-one.result) = elim c.if-is_some-2.branch [
      | then-is_some-2 w ↦ behind_one (is_some c.starter_of-starter.result) (is_some c.one_at-one.result) c.if-is_some.at c.if-is_some-2.from at (sym c.is_some-2.ensures ∙ w.if-is_some-2.true) w.from-is
      | else-is_some-2 w ↦ behind_none (is_some c.starter_of-starter.result) (is_some c.one_at-one.result) c.if-is_some.at c.if-is_some-2.from at (sym c.is_some-2.ensures ∙ w.if-is_some-2.false) w.from-is
    ] in
    record {
      starter = c.starter_of-starter.ensures;
      one = subst (λ (n : ℕ). IsOne (texts c.args.words.now) n c.one_at-one.result) at c.one_at-one.ensures;
      rest = rest_of c.args.words.now c.in_ok-words_from.field-0.items c.if-is_some-2.from _ from c.in_ok-words_from.ensures;
    }
