use Rattle.std.proofs.Common.{take}
use Rattle.std.specs.Prelude.{All}
use Rattle.sqcrash.specs.Words.{MayAskHelp}
use Rattle.sqcrash.proofs.commands.asks_help.Given as goal

abbrev pub invariant-loop-word : goal.invariant-loop-word
invariant-loop-word l = All (λ w. ¬ MayAskHelp w.now) (take l.word-index l.words)
