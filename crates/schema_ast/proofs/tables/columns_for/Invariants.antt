use Rattle.std.proofs.Common.{◌≡◌, map, take}
use Rattle.schema_ast.specs.Tables.{column_for}
use Rattle.schema_ast.proofs.tables.columns_for.Given as goal

abbrev pub invariant-loop-column : goal.invariant-loop-column
invariant-loop-column l = l.all ≡ map (column_for l.text l.tokens) (take l.column-index l.columns)
