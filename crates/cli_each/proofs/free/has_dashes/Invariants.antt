use Rattle.std.proofs.Common.{◌≢◌, ◌<◌, ℕ, map}
use Rattle.std.specs.Prelude.{slice_get, Some, codes}
use Rattle.cli_each.proofs.free.has_dashes.Given as goal

abbrev pub invariant-loop-word : goal.invariant-loop-word
invariant-loop-word l = (k : ℕ) → k < l.word-index → slice_get (map (λ w. w.now) l.words) k ≢ Some (codes "--")
