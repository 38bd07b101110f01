use Rattle.std.proofs.Common.{◌≡◌, ◌∙◌, sym, ap, true, false, inr, arith}
use Rattle.std.specs.Prelude.{Some}
use Rattle.std.specs.Cmp.Lexicographic.{bytes_decides}
use Rattle.cli_words.proofs.CommandLineArguments.{at_word, none_from_more, options_are, options_rest}
use Rattle.cli_words.proofs.words.options_of.Goals as goal

pub returns-then-eq : goal.returns-then-eq
returns-then-eq c =
    let two : c.min-from.result ≡ 2 = omega (arith, c.min-from.ensures, c.loop-end.auto.end, c.loop-end-test.true) in
    let same = (bytes_decides _ _).0 (sym c.if-eq.ensures) in
    record {
      end = c.loop-end.end;
      behind = omega (arith, two, c.loop-end.auto.end);
      are = options_are c.args.words.now c.min-from.result c.loop-end.end two (omega (arith, c.loop-end.auto.end));
      none = c.loop-end.invariant;
      last = inr (at_word c.args.words.now c.loop-end.end _ c.loop-end-test.true ∙ ap Some same);
    }

pub loop-end-preserved : goal.loop-end-preserved
loop-end-preserved c = none_from_more c.args.words.now c.loop-end.end _ c.loop-end-test.true 2 _ c.loop-end.invariant
    (λ e. let same = (bytes_decides _ _).1 e in let f : false ≡ true = c.if-eq.ensures ∙ same in cc)

pub returns : goal.returns
returns c = options_rest c.args.words.now c.min-from.result c.loop-end.end c.min-from.ensures (c.loop-end-test.false) c.loop-end.invariant
