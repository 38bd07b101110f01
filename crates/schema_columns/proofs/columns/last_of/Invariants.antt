use Rattle.std.proofs.Common.{◌≡◌, drop}
use Rattle.schema_columns.specs.Columns.{last_of, later_of}
use Rattle.schema_columns.proofs.columns.last_of.Given as goal

abbrev pub invariant-loop-clause : goal.invariant-loop-clause
invariant-loop-clause l = last_of l.wanted l.clauses ≡ later_of (last_of l.wanted (drop l.clause-index l.clauses)) l.last
