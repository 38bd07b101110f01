use Rattle.std.proofs.Common.{◌≡◌, ◌++◌, drop}
use Rattle.schema_columns.specs.Columns.{columns_of}
use Rattle.schema_columns.proofs.columns.columns_of.Given as goal

abbrev pub invariant-loop-i : goal.invariant-loop-i
invariant-loop-i l = columns_of l.clauses ≡ l.columns.items ++ columns_of (drop l.i l.clauses)
