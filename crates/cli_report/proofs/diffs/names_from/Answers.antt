use Rattle.std.proofs.Common.{arith}
use Rattle.cli_report.proofs.WordsOfDiff.{none_more, none_named, one_named}
use Rattle.cli_report.proofs.diffs.names_from.Goals as goal

pub returns-then-is_from-clause-yes : goal.returns-then-is_from-clause-yes
returns-then-is_from-clause-yes c = λ _. one_named c.args.words.now c.loop-word.word-index _ c.loop-word-test.true (c.is_from.ensures.yes c.if-is_from.true)

pub loop-word-preserved : goal.loop-word-preserved
loop-word-preserved c = none_more c.args.words.now c.loop-word.word-index _ c.loop-word-test.true c.loop-word.invariant (c.is_from.ensures.not c.if-is_from.false)

pub returns-clause-not : goal.returns-clause-not
returns-clause-not c = λ _. none_named c.args.words.now c.loop-word.word-index (omega (arith, c.loop-word-test.false)) c.loop-word.invariant
