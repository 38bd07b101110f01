use Rattle.std.proofs.Common.{◌≡◌, ◌++◌, drop}
use Rattle.schema_columns.specs.Keys.{all_terms}
use Rattle.schema_columns.proofs.keys.all_terms.Given as goal

abbrev pub invariant-loop-i : goal.invariant-loop-i
invariant-loop-i l = all_terms l.clauses ≡ l.terms.items ++ all_terms (drop l.i l.clauses)
