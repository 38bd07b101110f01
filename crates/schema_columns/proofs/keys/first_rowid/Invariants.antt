use Rattle.std.proofs.Common.{◌≡◌, ◌+◌, drop}
use Rattle.std.specs.List.{position_or_len}
use Rattle.schema_columns.specs.Keys.{may_be_rowid}
use Rattle.schema_columns.proofs.keys.first_rowid.Given as goal

abbrev pub invariant-loop-i : goal.invariant-loop-i
invariant-loop-i l = position_or_len (λ c. may_be_rowid l.text l.tokens l.terms c) l.columns ≡ l.i + position_or_len (λ c. may_be_rowid l.text l.tokens l.terms c) (drop l.i l.columns)
