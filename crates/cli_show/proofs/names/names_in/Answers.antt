use Rattle.std.proofs.Common.{rules}
use Rattle.std.proofs.lemmas.List.Sorted.{IsNonDecreasingBy-from_sort_by_key}
use Rattle.cli_show.specs.declared.names.Name.{Name}
use Rattle.cli_show.proofs.names.names_in.Goals as goal

pub invariant_of-result-2 : goal.invariant_of-result-2
invariant_of-result-2 g c =
    record { ordered = IsNonDecreasingBy-from_sort_by_key (λ (x : Name). x.root) _ c.in_ok-sort_by_key.ensures.sorted (λ a r q k. search rules) }
