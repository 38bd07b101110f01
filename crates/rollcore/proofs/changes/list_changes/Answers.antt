use Rattle.rollcore.proofs.Facts.{AreChanges, Change, IsNonDecreasingBy, IsNonDecreasingBy-from_sort_by_key, IsPermutation, List, are_changes, faultless, lent, rules, subst, sym}
use Rattle.rollcore.specs.internal.Listing.{written}
use Rattle.rollcore.proofs.changes.list_changes.Goals as goal

pub returns-clause-changes : goal.returns-clause-changes
returns-clause-changes c = λ page_size none.
    let sorted : List Change = c.sort_unstable_by_key.new.self.items in
    let moved : IsPermutation (written c.args.old_size 0 (lent c.args.pages.now)) sorted =
    subst (λ (l : List Change). IsPermutation l sorted) c.in_ok-list_written.ensures c.sort_unstable_by_key.ensures.permutation in
    let order : IsNonDecreasingBy (λ (x : Change). x.page) sorted =
    IsNonDecreasingBy-from_sort_by_key (λ (x : Change). x.page) _ c.sort_unstable_by_key.ensures.sorted (λ a r q k. search rules) in
    subst (λ (l : List Change). AreChanges (lent c.args.pages.now) c.args.old_size c.args.size l) (sym c.in_ok-list_cut_off.ensures)
    (are_changes (lent c.args.pages.now) c.args.old_size page_size c.args.size (faultless c.args.old_size page_size (lent c.args.pages.now) c.args.size none) sorted moved order)
