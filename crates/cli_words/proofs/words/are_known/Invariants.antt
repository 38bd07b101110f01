use Rattle.std.proofs.Common.{◌≡◌, ◌<◌, ℕ, List, map}
use Rattle.std.specs.Prelude.{slice_get, Some}
use Rattle.cli_words.specs.Line.{IsKnown}
use Rattle.cli_words.proofs.words.are_known.Given as goal

abbrev pub invariant-loop-word : goal.invariant-loop-word
invariant-loop-word l = (k : ℕ) (word : List ℕ) → k < l.word-index → slice_get (map (λ w. w.now) l.words) k ≡ Some word → IsKnown l.own word
