use Rattle.std.proofs.Common.{◌≡◌, ℕ, List, map, take}
use Rattle.rig_commit.proofs.pages.lent.Given as goal

abbrev pub invariant-loop-page : goal.invariant-loop-page
invariant-loop-page l =
    map {B = ℕ × List ℕ} (λ p. (p.0, p.1.now)) l.lent.items ≡ map {B = ℕ × List ℕ} (λ p. (p.0, p.1.items)) (take l.page-index l.pages)
