use Rattle.std.proofs.Common.{rules}
use Rattle.std.proofs.lemmas.List.Sorted.{IsNonDecreasingBy-from_sort_by_key}
use Rattle.sqpage.specs.declared.fault.CheckError.{CheckError}
use Rattle.cli_show_salvage.proofs.faults.by_page.Goals as goal

pub returns-in-Ok-clause-ordered : goal.returns-in-Ok-clause-ordered
returns-in-Ok-clause-ordered c = IsNonDecreasingBy-from_sort_by_key (λ (e : CheckError). e.page) _ c.in-Ok.ensures.sorted (λ a r q k. search rules)
