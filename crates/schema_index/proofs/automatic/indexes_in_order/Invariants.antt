use Rattle.std.proofs.Common.{◌≡◌, [], drop, map, filter}
use Rattle.std.specs.List.{fold}
use Rattle.schema_index.specs.KeyColumns.{key_columns}
use Rattle.schema_index.specs.Automatic.{is_indexed, with_index}
use Rattle.schema_index.proofs.automatic.indexes_in_order.Given as goal

abbrev pub invariant-loop-key : goal.invariant-loop-key
invariant-loop-key l =
    fold (with_index l.text l.tokens) [] (map (key_columns l.text l.tokens l.columns l.clauses) (filter (is_indexed l.integer) l.key-items))
    ≡ fold (with_index l.text l.tokens) (map (λ i. i.items) l.all.items) (map (key_columns l.text l.tokens l.columns l.clauses) (filter (is_indexed l.integer) (drop l.key-index l.key-items)))
