use Rattle.std.proofs.Common.{◌≡◌, ℕ, List, ◌∷◌, get_or}
use Rattle.sqwal.specs.Commits.{AreCommits}
use Rattle.sqwal.specs.Header.{named_size}
use Rattle.sqwal.specs.Took.{Took}
use Rattle.sqrescue_c.specs.Commits.{AreCommitsOf}
use Rattle.sqrescue_c.proofs.commits.copy_commits.Given as goal

abbrev pub invariant-loop-i : goal.invariant-loop-i
invariant-loop-i l = record {
  behind : l.before ≡ get_or (0 ∷ l.ends) l.i 0;
  copied : (w : List ℕ) → Took w l.scan → AreCommits (named_size w) w l.ends → AreCommitsOf w l.i l.ends l.commits;
}
