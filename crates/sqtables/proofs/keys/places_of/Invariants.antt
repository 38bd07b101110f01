use Rattle.std.proofs.Common.{◌≡◌, ◌≤◌, ◌<◌, ◌+◌, ◌++◌, length, drop}
use Rattle.std.specs.Prelude.{All}
use Rattle.sqtables.specs.Keys.{places_of}
use Rattle.sqtables.proofs.keys.places_of.Given as goal

abbrev pub invariant-loop-column : goal.invariant-loop-column
invariant-loop-column l = record {
  same : places_of l.keys (length l.keys) l.columns ≡ l.places.items ++ places_of l.keys l.next (drop l.column-index l.columns);
  few : l.next ≤ length l.keys + l.column-index;
  within : All (λ place. place < 18446744073709551615) l.places.items;
}
