use Rattle.std.proofs.Common.{◌-◌}
use Rattle.sqdeleted.proofs.TypesFrom.{Reading}
use Rattle.sqdeleted.proofs.rest.types_from.Given as goal

abbrev pub invariant-types : goal.invariant-types
invariant-types l = Reading l.page.used.now l.page.whole.now.begin.items l.last l.to l.from l.span.0 l.span.1 l.bodies l.end

abbrev pub decreases-types : goal.decreases-types
decreases-types l = l.span.1 - l.bodies
