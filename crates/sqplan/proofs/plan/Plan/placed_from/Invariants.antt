use Rattle.std.proofs.Common.{◌≡◌, ◌+◌, ◌-◌, ◌≤◌}
use Rattle.sqplan.specs.Plans.{pages_from}
use Rattle.sqplan.proofs.plan.Plan.placed_from.Given as goal

abbrev pub invariant-loop-page : goal.invariant-loop-page
invariant-loop-page l = (l.first ≤ l.page) × (pages_from l.self l.first ≡ pages_from l.self l.page)

abbrev pub decreases-loop-page : goal.decreases-loop-page
decreases-loop-page l = l.self.pages + 1 - l.page
