use Rattle.std.proofs.Common.{ℕ, true, false, List, sym, ◌∙◌, subst}
use Rattle.sqval.specs.JudgedPages.{lent}
use Rattle.sqval.specs.internal.JudgedPages.{numbers_of, Misses}
use Rattle.sqval.proofs.page.PageNumbers.{skip, hit, numbers_lent, hole_by_numbers}
use Rattle.sqval.proofs.commit.judge_pairs.Goals as goal

lent_misses : (c : goal.Then-lacks) → Misses (numbers_of (lent c.args.pages.now)) c.args.old_size c.args.size true
lent_misses c = subst (λ (ns : List ℕ). Misses ns c.args.old_size c.args.size true) (sym (numbers_lent c.args.pages.now)) c.if-lacks.ensures

pub returns-then-lacks : goal.returns-then-lacks
returns-then-lacks c = skip _ _ _ (sym c.if-repeats.ensures) ∙ hit _ _ _ (hole_by_numbers (lent c.args.pages.now) c.args.old_size c.args.size true (lent_misses c))

pub returns : goal.returns
returns c = skip _ _ _ (sym c.if-repeats.ensures) ∙ skip _ _ _ (hole_by_numbers (lent c.args.pages.now) c.args.old_size c.args.size false
    (subst (λ (ns : List ℕ). Misses ns c.args.old_size c.args.size false) (sym (numbers_lent c.args.pages.now)) c.if-lacks.ensures))
