use Rattle.std.proofs.Common.{◌≡◌, map, take}
use Rattle.std.specs.List.Sorted.{IsNonDecreasingBy}
use Rattle.cli_facts.specs.Runs.{TellFirstFaults}
use Rattle.cli_facts.proofs.runs.uses_of.Given as goal

abbrev pub invariant-loop-i : goal.invariant-loop-i
invariant-loop-i l = record {
  roles : map (λ u. u.role) l.uses.items ≡ take l.i l.roles;
  faults : IsNonDecreasingBy (λ e. e.page) l.faults → TellFirstFaults l.faults l.uses.items;
}
