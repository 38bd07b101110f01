use Rattle.std.proofs.Common.{◌≡◌, ◌-◌, ◌≤◌, ◌++◌, length, drop}
use Rattle.schema_print.specs.Names.{unquoted}
use Rattle.schema_print.proofs.names.unquoted.Given as goal

abbrev pub invariant-loop-n : goal.invariant-loop-n
invariant-loop-n l = record { within : l.n ≤ length l.s; rest : unquoted l.quote l.s ≡ l.out.items ++ unquoted l.quote (drop l.n l.s) }

abbrev pub decreases-loop-n : goal.decreases-loop-n
decreases-loop-n l = length l.initial.s - l.n
