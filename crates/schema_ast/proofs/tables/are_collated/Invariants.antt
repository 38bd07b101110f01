use Rattle.std.proofs.Common.{◌≡◌, drop}
use Rattle.std.specs.List.{list_all}
use Rattle.schema_ast.specs.Tables.{is_collated}
use Rattle.schema_ast.proofs.tables.are_collated.Given as goal

abbrev pub invariant-loop-column : goal.invariant-loop-column
invariant-loop-column l = list_all (is_collated l.text l.tokens) l.columns ≡ list_all (is_collated l.text l.tokens) (drop l.column-index l.columns)
