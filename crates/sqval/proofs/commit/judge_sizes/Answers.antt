use Rattle.std.proofs.Common.{sym, ◌∙◌}
use Rattle.sqval.proofs.page.PageNumbers.{skip, hit, any_lent}
use Rattle.sqval.proofs.commit.judge_sizes.Goals as goal

pub returns-then-has_bad_length-clause-judged : goal.returns-then-has_bad_length-clause-judged
returns-then-has_bad_length-clause-judged c = hit _ _ _ (any_lent _ c.args.pages.now ∙ sym c.if-has_bad_length.ensures.found)

pub returns-then-is_too_large-clause-judged : goal.returns-then-is_too_large-clause-judged
returns-then-is_too_large-clause-judged c = skip _ _ _ (any_lent _ c.args.pages.now ∙ sym c.if-has_bad_length.ensures.found) ∙ hit _ _ _ (sym c.if-is_too_large.ensures)

pub returns-clause-judged : goal.returns-clause-judged
returns-clause-judged c = skip _ _ _ (any_lent _ c.args.pages.now ∙ sym c.if-has_bad_length.ensures.found) ∙ skip _ _ _ (sym c.if-is_too_large.ensures)
