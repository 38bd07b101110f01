use Rattle.std.specs.Prelude.{codes}
use Rattle.std.proofs.Common.{◌≡◌, sym, ◌∙◌, true, false, map, arith}
use Rattle.std.proofs.lemmas.List.{length-map, get_or-map}
use Rattle.std.specs.Cmp.Lexicographic.{bytes_decides}
use Rattle.cli_words.proofs.CommandLineArguments.{words_long, none_more, not_there}
use Rattle.cli_each.proofs.free.has_dashes.Goals as goal

pub returns-then-eq-clause-yes : goal.returns-then-eq-clause-yes
returns-then-eq-clause-yes c = λ _.
    let same = (bytes_decides _ _).0 (sym c.if-eq.ensures) in
    let within = c.loop-word-test.true in (
      c.loop-word.word-index,
      rw length-map within,
      get_or-map (λ w. w.now) c.args.words.now c.loop-word.word-index _ (codes "--") within ∙ same,
    )

pub loop-word-preserved : goal.loop-word-preserved
loop-word-preserved c = none_more c.args.words.now c.loop-word.word-index _ c.loop-word-test.true (codes "--") c.loop-word.invariant
    (λ e. let same = (bytes_decides _ _).1 e in let f : false ≡ true = c.if-eq.ensures ∙ same in cc)

pub returns-clause-not : goal.returns-clause-not
returns-clause-not c = λ _. not_there (map (λ w. w.now) c.args.words.now) (codes "--")
    (λ k lt. c.loop-word.invariant k (omega (arith, words_long c.args.words.now, c.loop-word-test.false)))
