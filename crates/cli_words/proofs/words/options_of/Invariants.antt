use Rattle.std.proofs.Common.{◌≢◌, ◌≤◌, ◌<◌, ℕ, map}
use Rattle.std.specs.Prelude.{slice_get, codes, Some}
use Rattle.cli_words.proofs.words.options_of.Given as goal

abbrev pub invariant-loop-end : goal.invariant-loop-end
invariant-loop-end l = (i : ℕ) → 2 ≤ i → i < l.end → slice_get (map (λ w. w.now) l.words) i ≢ Some (codes "--")
