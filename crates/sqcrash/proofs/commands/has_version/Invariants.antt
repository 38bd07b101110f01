use Rattle.std.proofs.Common.{take}
use Rattle.std.specs.Prelude.{All}
use Rattle.sqcrash.specs.Words.{IsVersion}
use Rattle.sqcrash.proofs.commands.has_version.Given as goal

abbrev pub invariant-loop-word : goal.invariant-loop-word
invariant-loop-word l = All (λ w. ¬ IsVersion w.now) (take l.word-index l.words)
