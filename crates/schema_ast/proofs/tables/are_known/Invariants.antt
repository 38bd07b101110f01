use Rattle.std.proofs.Common.{◌≡◌, drop}
use Rattle.std.specs.List.{list_all}
use Rattle.schema_ast.specs.Tables.{is_known}
use Rattle.schema_ast.proofs.tables.are_known.Given as goal

abbrev pub invariant-loop-column : goal.invariant-loop-column
invariant-loop-column l = list_all (is_known l.text l.tokens l.columns) l.key ≡ list_all (is_known l.text l.tokens l.columns) (drop l.column-index l.key)
