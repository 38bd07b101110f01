use Rattle.std.proofs.Common.{ℕ, ◌<◌, ◌≤◌}
use Rattle.sqpage.specs.Page.{content_start_in, pointer_in, HasCell}
use Rattle.sqpage.proofs.page.cells_lie_within.Given as goal

abbrev pub invariant-cells : goal.invariant-cells
invariant-cells l = (k : ℕ) → k < l.i → (content_start_in l.used l.number ≤ pointer_in l.kind l.used l.number k) × HasCell l.kind l.used (pointer_in l.kind l.used l.number k)
