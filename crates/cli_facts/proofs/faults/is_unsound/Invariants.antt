use Rattle.std.specs.List.Sorted.{IsNonDecreasingBy}
use Rattle.sqpage.specs.declared.fault.CheckError.{CheckError}
use Rattle.cli_facts.proofs.FaultsInOrder.{AreOfRows}
use Rattle.cli_facts.proofs.faults.is_unsound.Given as goal

abbrev pub invariant-faults : goal.invariant-faults
invariant-faults l = IsNonDecreasingBy (λ (e : CheckError). e.page) l.faults → AreOfRows l.faults l.page l.i
