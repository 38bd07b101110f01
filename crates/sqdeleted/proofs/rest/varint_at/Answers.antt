use Rattle.std.proofs.Common.{◌≡◌, ◌↔◌, ℕ, List, drop, Some, IsNone, subst}
use Rattle.sqval.specs.Varint.{Begins}
use Rattle.sqdeleted.proofs.rest.varint_at.Goals as goal

pub returns-clause-found : goal.returns-clause-found
returns-clause-found c = rw (← c.split_at.ensures.back) c.read.ensures.found

pub returns-clause-none : goal.returns-clause-none
returns-clause-none c = rw (← c.split_at.ensures.back) c.read.ensures.none
