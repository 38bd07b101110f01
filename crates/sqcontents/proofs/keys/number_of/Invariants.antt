use Rattle.std.proofs.Common.{ℕ, ◌<◌, ◌≤◌}
use Rattle.sqcontents.specs.Contents.{EndsWith}
use Rattle.sqcontents.proofs.keys.number_of.Given as goal

abbrev pub invariant-numbers : goal.invariant-numbers
invariant-numbers l = (number : ℕ) → 1 ≤ number → number < l.number → ¬ EndsWith l.name number
