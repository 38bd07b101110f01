use Rattle.std.proofs.Common.{◌<◌, ℕ, List, map}
use Rattle.cli_words.proofs.CommandLineArguments.{NamesText}
use Rattle.cli_words.proofs.words.text_of.Given as goal

abbrev pub invariant-loop-i : goal.invariant-loop-i
invariant-loop-i l = (k : ℕ) (text : List ℕ) → k < l.i → NamesText l.name (map (λ w. w.now) l.options) text k → ⊥
