use Rattle.std.proofs.Common.{◌≡◌, ℕ, ◌<◌, ◌≤◌, true}
use Rattle.std.specs.Prelude.{◌==◌}
use Rattle.std.specs.List.{list_any}
use Rattle.sqval.specs.internal.JudgedPages.{numbers_of}
use Rattle.sqval.proofs.commit.lacks.Given as goal

abbrev pub invariant-loop-k : goal.invariant-loop-k
invariant-loop-k l = (p : ℕ) → l.old_size < p → p ≤ l.k → list_any (λ q. q == p) (numbers_of l.pages) ≡ true
