use Rattle.std.proofs.Common.{◌≡◌, drop}
use Rattle.schema_index.specs.KeyColumns.{same_columns}
use Rattle.schema_index.proofs.columns.are_same_columns.Given as goal

abbrev pub invariant-loop-i : goal.invariant-loop-i
invariant-loop-i l = same_columns l.text l.tokens l.a l.b ≡ same_columns l.text l.tokens (drop l.i l.a) (drop l.i l.b)
