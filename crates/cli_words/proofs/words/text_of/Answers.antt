use Rattle.std.proofs.Common.{◌≡◌, ◌∙◌, sym, inl, inr, true, false, map, arith}
use Rattle.std.specs.Cmp.Lexicographic.{bytes_decides}
use Rattle.cli_words.proofs.CommandLineArguments.{words_long, no_text, no_text_more, text_here}
use Rattle.cli_words.proofs.words.text_of.Goals as goal
use Rattle.cli_words.proofs.words.text_of.Goals.{else-eq-via-then-eq+else-i-options, else-eq-via-else-eq}

pub returns-then-i-options : goal.returns-then-i-options
returns-then-i-options c =
    let same = (bytes_decides _ _).0 (sym c.if-eq.ensures) in
    text_here c.args.options.now c.loop-i.i _ c.loop-i-test.true _ _ same c.if-i-options.true

pub loop-i-preserved : goal.loop-i-preserved
loop-i-preserved c = no_text_more c.args.options.now c.loop-i.i _ c.loop-i-test.true c.args.name.now c.loop-i.invariant
    (elim c.else-eq.branch [
      | else-eq-via-then-eq+else-i-options w ↦ inr w.if-i-options.false
      | else-eq-via-else-eq w ↦ inl (λ e. let same = (bytes_decides _ _).1 e in let f : false ≡ true = w.if-eq.ensures ∙ same in cc)
    ])
    c.in_default.ensures

pub returns : goal.returns
returns c = λ text. no_text c.args.name.now (map (λ w. w.now) c.args.options.now) text
    (λ k lt. c.loop-i.invariant k text (omega (arith, words_long c.args.options.now, c.loop-i-test.false)))
