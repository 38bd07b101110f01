use Rattle.std.proofs.Common.{◌≡◌, filter, take}
use Rattle.schema_ast.specs.Tables.{is_kept}
use Rattle.schema_ast.proofs.tables.kept_among.Given as goal

abbrev pub invariant-loop-column : goal.invariant-loop-column
invariant-loop-column l = l.kept.items ≡ filter (is_kept l.text l.tokens) (take l.column-index l.columns)
