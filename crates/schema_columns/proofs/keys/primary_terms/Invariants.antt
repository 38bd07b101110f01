use Rattle.std.proofs.Common.{◌≡◌, drop}
use Rattle.schema_columns.specs.Keys.{primary_terms}
use Rattle.schema_columns.proofs.keys.primary_terms.Given as goal

abbrev pub invariant-loop-i : goal.invariant-loop-i
invariant-loop-i l = primary_terms l.clauses ≡ primary_terms (drop l.i l.clauses)
