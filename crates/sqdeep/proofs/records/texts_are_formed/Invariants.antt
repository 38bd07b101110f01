use Rattle.std.proofs.Common.{◌≡◌, ◌++◌, map}
use Rattle.sqval.specs.Datum.{datum_of}
use Rattle.sqpage.specs.Lists.{Every}
use Rattle.sqdeep.specs.Records.{IsFormed}
use Rattle.sqdeep.proofs.records.texts_are_formed.Given as goal

abbrev pub invariant-values : goal.invariant-values
invariant-values l = record {
  all : map datum_of l.yielded ++ l.value-iterator ≡ l.row;
  formed : Every (IsFormed l.encoding) (map datum_of l.yielded);
}
