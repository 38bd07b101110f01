use Rattle.std.proofs.Common.{◌<◌, length, map, arith}
use Rattle.std.proofs.lemmas.Option.{slice_get_within}
use Rattle.cli_words.proofs.CommandLineArguments.{known_more, unknown_there, words_long}
use Rattle.cli_words.proofs.words.are_known.Goals as goal

pub returns-then-not-is_known-clause-not : goal.returns-then-not-is_known-clause-not
returns-then-not-is_known-clause-not c = λ _. unknown_there c.args.own c.args.words.now c.loop-word.word-index _ c.loop-word-test.true
    (c.is_known.ensures.not c.if-not-is_known.true)

pub loop-word-preserved : goal.loop-word-preserved
loop-word-preserved c = known_more c.args.own c.args.words.now c.loop-word.word-index _ c.loop-word-test.true c.loop-word.invariant
    (c.is_known.ensures.yes c.if-not-is_known.false)

pub returns-clause-yes : goal.returns-clause-yes
returns-clause-yes c = λ _ i word is.
    let within : i < length (map (λ w. w.now) c.args.words.now) = slice_get_within (map (λ w. w.now) c.args.words.now) i word is in
    c.loop-word.invariant i word (omega (arith, words_long c.args.words.now, c.loop-word-test.false)) is
