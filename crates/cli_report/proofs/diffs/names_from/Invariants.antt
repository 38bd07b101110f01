use Rattle.std.proofs.Common.{map}
use Rattle.cli_report.proofs.WordsOfDiff.{NamesNone}
use Rattle.cli_report.proofs.diffs.names_from.Given as goal

abbrev pub invariant-loop-word : goal.invariant-loop-word
invariant-loop-word l = NamesNone (map (λ w. w.now) l.words) l.word-index
