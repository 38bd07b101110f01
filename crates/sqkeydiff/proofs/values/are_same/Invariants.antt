use Rattle.std.proofs.Common.{◌≡◌, ◌++◌, map}
use Rattle.sqval.specs.Datum.{datum_of}
use Rattle.sqkeydiff.proofs.values.are_same.Given as goal

abbrev pub invariant-values : goal.invariant-values
invariant-values l = record {
  old_all : map datum_of l.yielded ++ l.value-iterator ≡ l.old;
  new_all : map datum_of l.yielded ++ l.others ≡ l.new;
}
