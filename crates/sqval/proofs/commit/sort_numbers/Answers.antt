use Rattle.std.proofs.lemmas.List.Sorted.{IsNonDecreasingBy-from_sort}
use Rattle.sqval.proofs.commit.sort_numbers.Goals as goal

pub returns-clause-order : goal.returns-clause-order
returns-clause-order c sorted = IsNonDecreasingBy-from_sort (λ x. x) c.sort_unstable.new.self.items c.sort_unstable.ensures.sorted
