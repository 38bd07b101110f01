use Rattle.std.proofs.Common.{rules}
use Rattle.std.specs.Prelude.{ltb}
use Rattle.std.proofs.lemmas.List.Sorted.{IsPartitionPoint-from_clause, IsPartitionedBy-ltb}
use Rattle.sqpage.specs.declared.fault.CheckError.{CheckError}
use Rattle.cli_facts.proofs.FaultsInOrder.{place_of_point}
use Rattle.cli_facts.proofs.faults.place_of.Goals as goal

pub returns-clause-place : goal.returns-clause-place
returns-clause-place c = λ sorted.
    let parted = IsPartitionedBy-ltb (λ (e : CheckError). e.page) c.args.faults.now c.args.page sorted in
    let point = IsPartitionPoint-from_clause (λ (e : CheckError). ltb e.page c.args.page) _ _ c.partition_point.ensures.partitioned parted (λ a r q k. search rules) in
    place_of_point c.args.faults.now c.args.page c.partition_point.result point
