use Rattle.std.proofs.Common.{◌≢◌, ◌<◌, ℕ, map}
use Rattle.std.specs.Prelude.{slice_get, Some}
use Rattle.cli_words.proofs.words.stands_in.Given as goal

abbrev pub invariant-loop-word : goal.invariant-loop-word
invariant-loop-word l = (k : ℕ) → k < l.word-index → slice_get (map (λ w. w.now) l.words) k ≢ Some l.text
