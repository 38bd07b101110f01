use Rattle.std.proofs.Common.{◌≡◌, ◌≤◌, ◌++◌, drop}
use Rattle.schema_columns.specs.Keys.{keys_from}
use Rattle.schema_columns.proofs.keys.keys_of.Given as goal

abbrev pub invariant-loop-i : goal.invariant-loop-i
invariant-loop-i l = record { few : l.columns ≤ l.i; so_far : keys_from 0 0 l.clauses ≡ l.keys.items ++ keys_from l.columns l.i (drop l.i l.clauses) }
