use Rattle.std.proofs.Common.{◌≡◌, map, take}
use Rattle.schema_index.specs.KeyColumns.{term_column}
use Rattle.schema_index.proofs.columns.term_columns.Given as goal

abbrev pub invariant-loop-term : goal.invariant-loop-term
invariant-loop-term l = l.found.items ≡ map (term_column l.text l.tokens l.columns) (take l.term-index l.terms)
