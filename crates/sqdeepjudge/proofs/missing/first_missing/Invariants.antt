use Rattle.std.proofs.Common.{◌≤◌, ℕ}
use Rattle.sqdeepjudge.specs.Missing.{IsMissingOf}
use Rattle.sqdeepjudge.proofs.missing.first_missing.Given as goal

abbrev pub invariant-pages : goal.invariant-pages
invariant-pages g l = (q : ℕ) → 1 ≤ q → q ≤ l.before → ¬ IsMissingOf l.view l.long q
