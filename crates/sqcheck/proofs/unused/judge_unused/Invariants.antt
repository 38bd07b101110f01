use Rattle.sqcheck.proofs.Words.{false, get_or, true, ℕ, ◌<◌, ◌≡◌}
use Rattle.sqcheck.proofs.unused.judge_unused.Given as goal

abbrev pub invariant-pages : goal.invariant-pages
invariant-pages l = (k : ℕ) → k < l.i → get_or l.marks k false ≡ true
