use Rattle.std.proofs.Common.{take}
use Rattle.std.specs.Prelude.{All}
use Rattle.sqtables.specs.Objects.{IsTableNamed}
use Rattle.sqtables.proofs.list.table_named.Given as goal

abbrev pub invariant-loop-object : goal.invariant-loop-object
invariant-loop-object l = All (λ o. ¬ IsTableNamed l.name o) (take l.object-index l.objects)
