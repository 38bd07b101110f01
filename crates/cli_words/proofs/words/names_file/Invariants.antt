use Rattle.std.proofs.Common.{map}
use Rattle.cli_words.proofs.CommandLineArguments.{NoneFree}
use Rattle.cli_words.proofs.words.names_file.Given as goal

abbrev pub invariant-loop-i : goal.invariant-loop-i
invariant-loop-i l = NoneFree (map (λ w. w.now) l.words) 2 l.i
