use Rattle.std.proofs.Common.{◌<◌, refl, length, map, arith}
use Rattle.std.proofs.lemmas.Option.{slice_get_within}
use Rattle.cli_words.proofs.CommandLineArguments.{none_free_more, some_word, words_long}
use Rattle.cli_words.proofs.words.none_free.Goals as goal

pub loop-i-preserved : goal.loop-i-preserved
loop-i-preserved c = none_free_more _ _ _ c.loop-i.invariant (c.if-stands_free.ensures.not refl)

pub returns-then-stands_free-clause-not : goal.returns-then-stands_free-clause-not
returns-then-stands_free-clause-not c = λ _.
    let found = some_word c.args.words.now c.loop-i.i c.loop-i-test.true in
    (c.loop-i.i, found.0, c.loop-i.auto.i, c.if-stands_free.ensures.yes refl found.0 found.1)

pub returns-clause-yes : goal.returns-clause-yes
returns-clause-yes c = λ _ k word above free.
    let within : k < length (map (λ w. w.now) c.args.words.now) = slice_get_within (map (λ w. w.now) c.args.words.now) k word free.is in
    c.loop-i.invariant k word above (omega (arith, words_long c.args.words.now, c.loop-i-test.false)) free
