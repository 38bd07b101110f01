use Rattle.std.proofs.Common.{ℕ, List, sym, subst, refl}
use Rattle.std.specs.List.Sorted.{IsPermutation}
use Rattle.sqval.specs.JudgedPages.{lent}
use Rattle.sqval.specs.internal.JudgedPages.{numbers_of}
use Rattle.sqval.proofs.page.PageNumbers.{numbers_lent}
use Rattle.sqval.proofs.commit.judge_set.Goals as goal

pub returns-then-sort_numbers : goal.returns-then-sort_numbers
returns-then-sort_numbers c = c.judge_sorted.ensures (lent c.args.pages.now)
    (subst (λ (ns : List ℕ). IsPermutation ns c.deref.result.now) (sym (numbers_lent c.args.pages.now))
    (subst (λ (ns : List ℕ). IsPermutation (numbers_of c.args.pages.now) ns) (sym c.deref.ensures.value) (c.if-sort_numbers.ensures.same refl)))
