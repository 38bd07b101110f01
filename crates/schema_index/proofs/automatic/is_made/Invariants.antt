use Rattle.std.proofs.Common.{◌≡◌, drop, map}
use Rattle.std.specs.List.{list_any}
use Rattle.schema_index.specs.KeyColumns.{same_columns}
use Rattle.schema_index.proofs.automatic.is_made.Given as goal

abbrev pub invariant-loop-index : goal.invariant-loop-index
invariant-loop-index l =
    list_any (same_columns l.text l.tokens l.key) (map (λ i. i.items) l.indexes)
    ≡ list_any (same_columns l.text l.tokens l.key) (map (λ i. i.items) (drop l.index-index l.indexes))
