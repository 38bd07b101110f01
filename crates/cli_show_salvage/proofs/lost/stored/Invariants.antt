use Rattle.std.proofs.Common.{◌≡◌, ◌++◌, map}
use Rattle.sqval.specs.Datum.{datum_of}
use Rattle.cli_show_salvage.proofs.lost.stored.Given as goal

abbrev pub invariant-loop-value : goal.invariant-loop-value
invariant-loop-value l = record {
  all : map datum_of l.yielded ++ l.value-iterator ≡ l.row.values;
  kept : l.values.items ≡ l.yielded;
}
