use Rattle.std.proofs.Common.{ℕ, List}
use Rattle.sqwal.specs.internal.Commits.{AreCommitsTo}
use Rattle.sqwal.specs.Header.{named_size}
use Rattle.sqwal.specs.Took.{TookWithin}
use Rattle.sqwal.proofs.scan.Scan.commits.Given as goal

abbrev pub invariant-loop-before : goal.invariant-loop-before
invariant-loop-before l = (most : ℕ) (b : List ℕ) → TookWithin most b l.self → AreCommitsTo (named_size b) b l.before l.commits.items
