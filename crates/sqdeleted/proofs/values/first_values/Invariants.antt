use Rattle.std.proofs.Common.{List, ℕ, [], length}
use Rattle.sqval.specs.Datum.{row_of}
use Rattle.sqval.specs.Record.{Lead}
use Rattle.sqdeleted.proofs.FirstValues.{Standing}
use Rattle.sqdeleted.proofs.values.first_values.Given as goal

abbrev pub invariant-columns : goal.invariant-columns
invariant-columns l = (serials : List ℕ) → Lead serials l.initial.rest [] → Standing l.initial.rest l.initial.left l.rest l.left (row_of l.values.items)

abbrev pub decreases-columns : goal.decreases-columns
decreases-columns l = length l.rest
