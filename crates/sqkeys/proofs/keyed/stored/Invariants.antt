use Rattle.std.proofs.Common.{◌≡◌, ◌++◌, map, take, not}
use Rattle.std.specs.List.{filter}
use Rattle.sqkeys.specs.RowRules.{has_column}
use Rattle.sqkeys.proofs.keyed.stored.Given as goal

abbrev pub invariant-loop-column : goal.invariant-loop-column
invariant-loop-column l = l.names.items ≡ map (λ keyed. keyed.name) l.key ++ filter (λ name. not (has_column l.key name)) (map (λ column. column.0) (take l.column-index l.body.columns))
