use Rattle.crashdisk.proofs.Words.{List, map, take, ℕ, ◌≡◌}
use Rattle.crashdisk.proofs.since.Since.copy.Given as goal

abbrev pub invariant-loop-at : goal.invariant-loop-at
invariant-loop-at l = map {B = ℕ × List ℕ} (λ entry. (entry.0, entry.1.items)) l.handed.items ≡ map {B = ℕ × List ℕ} (λ entry. (entry.0, entry.1.items)) (take l.at-index l.self.handed.items)
