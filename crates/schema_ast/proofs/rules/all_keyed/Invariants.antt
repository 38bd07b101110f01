use Rattle.std.proofs.Common.{◌≡◌, map, take}
use Rattle.schema_ast.specs.Tables.{keyed_of}
use Rattle.schema_ast.proofs.rules.all_keyed.Given as goal

abbrev pub invariant-loop-column : goal.invariant-loop-column
invariant-loop-column l = l.all ≡ map (keyed_of l.text l.tokens l.columns) (take l.column-index l.key)
