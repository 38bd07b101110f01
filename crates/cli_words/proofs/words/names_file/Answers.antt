use Rattle.std.proofs.Common.{◌≡◌, ◌∙◌, sym, ap, refl, true, false, arith}
use Rattle.std.specs.Prelude.{Some}
use Rattle.std.specs.Cmp.Lexicographic.{bytes_decides}
use Rattle.cli_words.proofs.CommandLineArguments.{at_word, no_file, none_free_more, only_free, other_file, two_free, words_long}
use Rattle.cli_words.proofs.words.names_file.Goals as goal

pub returns-then-eq-clause-yes : goal.returns-then-eq-clause-yes
returns-then-eq-clause-yes c = λ t.
    let same = (bytes_decides _ _).0 (sym c.if-eq.ensures) in (
      c.loop-i.i,
      c.if-stands_free.ensures.yes refl _ (at_word c.args.words.now c.loop-i.i _ c.loop-i-test.true ∙ ap Some same),
      only_free _ _ c.loop-i.invariant (c.none_free.ensures.yes t),
    )

pub returns-then-eq-clause-not : goal.returns-then-eq-clause-not
returns-then-eq-clause-not c = λ f.
    let more = c.none_free.ensures.not f in
    let same = (bytes_decides _ _).0 (sym c.if-eq.ensures) in
    two_free _ _ _ more.0 _ more.1
    (c.if-stands_free.ensures.yes refl _ (at_word c.args.words.now c.loop-i.i _ c.loop-i-test.true ∙ ap Some same))
    more.3 more.2

pub returns-else-eq-clause-not : goal.returns-else-eq-clause-not
returns-else-eq-clause-not c = λ _. other_file _ _ _ _
    (c.if-stands_free.ensures.yes refl _ (at_word c.args.words.now c.loop-i.i _ c.loop-i-test.true))
    (λ e. let same = (bytes_decides _ _).1 e in let f : false ≡ true = c.if-eq.ensures ∙ same in cc)

pub returns-clause-not : goal.returns-clause-not
returns-clause-not c = λ _. no_file _ _ c.loop-i.i (omega (arith, words_long c.args.words.now, c.loop-i-test.false)) c.loop-i.invariant

pub loop-i-preserved : goal.loop-i-preserved
loop-i-preserved c = none_free_more _ _ _ c.loop-i.invariant (c.if-stands_free.ensures.not refl)
