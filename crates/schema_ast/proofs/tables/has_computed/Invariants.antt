use Rattle.std.proofs.Common.{◌≡◌, drop}
use Rattle.std.specs.List.{list_any}
use Rattle.schema_ast.specs.Tables.{is_computed}
use Rattle.schema_ast.proofs.tables.has_computed.Given as goal

abbrev pub invariant-loop-column : goal.invariant-loop-column
invariant-loop-column l = list_any (is_computed l.text l.tokens) l.columns ≡ list_any (is_computed l.text l.tokens) (drop l.column-index l.columns)
