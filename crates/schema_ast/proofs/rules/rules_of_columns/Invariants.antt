use Rattle.std.proofs.Common.{◌≡◌, take}
use Rattle.std.specs.List.{flat_map}
use Rattle.schema_ast.specs.Tables.{column_rules}
use Rattle.schema_ast.proofs.rules.rules_of_columns.Given as goal

abbrev pub invariant-loop-column : goal.invariant-loop-column
invariant-loop-column l = l.rules ≡ flat_map (column_rules l.text l.tokens) (take l.column-index l.columns)
