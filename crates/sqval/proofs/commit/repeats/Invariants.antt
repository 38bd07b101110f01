use Rattle.std.proofs.Common.{◌≡◌, drop}
use Rattle.sqval.specs.CommitFaults.{has_twice}
use Rattle.sqval.specs.JudgedPages.{lent}
use Rattle.sqval.proofs.commit.repeats.Given as goal

abbrev pub invariant-loop-k : goal.invariant-loop-k
invariant-loop-k l = has_twice (lent l.pages) ≡ has_twice (lent (drop l.k l.pages))
