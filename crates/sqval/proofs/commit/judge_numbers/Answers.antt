use Rattle.std.proofs.Common.{◌==◌, sym, ◌∙◌, ap}
use Rattle.std.proofs.lemmas.Bool.{ne_eqb}
use Rattle.sqval.proofs.page.PageNumbers.{skip, hit, any_lent, lent_length}
use Rattle.sqval.proofs.commit.judge_numbers.Goals as goal

pub returns-then-has_zero : goal.returns-then-has_zero
returns-then-has_zero c = skip _ _ _ (ap (λ k. k == 0) (lent_length c.args.pages.now) ∙ sym c.if-is_empty.ensures) ∙ skip _ _ _ (ne_eqb c.args.size 0 c.if-size-eq0.false) ∙ hit _ _ _ (any_lent _ c.args.pages.now ∙ sym c.if-has_zero.ensures)

pub returns-then-has_above : goal.returns-then-has_above
returns-then-has_above c = skip _ _ _ (ap (λ k. k == 0) (lent_length c.args.pages.now) ∙ sym c.if-is_empty.ensures) ∙ skip _ _ _ (ne_eqb c.args.size 0 c.if-size-eq0.false)
    ∙ skip _ _ _ (any_lent _ c.args.pages.now ∙ sym c.if-has_zero.ensures) ∙ hit _ _ _ (any_lent _ c.args.pages.now ∙ sym c.if-has_above.ensures)

pub returns : goal.returns
returns c = skip _ _ _ (ap (λ k. k == 0) (lent_length c.args.pages.now) ∙ sym c.if-is_empty.ensures) ∙ skip _ _ _ (ne_eqb c.args.size 0 c.if-size-eq0.false)
    ∙ skip _ _ _ (any_lent _ c.args.pages.now ∙ sym c.if-has_zero.ensures) ∙ skip _ _ _ (any_lent _ c.args.pages.now ∙ sym c.if-has_above.ensures)
