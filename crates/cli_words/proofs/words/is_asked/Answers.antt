use Rattle.std.proofs.Common.{◌≡◌, ◌<◌, length, ◌∙◌, sym, ap, true, false, arith}
use Rattle.std.specs.Prelude.{Some}
use Rattle.std.specs.Cmp.Lexicographic.{bytes_decides}
use Rattle.cli_words.proofs.CommandLineArguments.{at_word, is_word}
use Rattle.cli_words.proofs.words.is_asked.Goals as goal

pub returns-then-eq-clause-second : goal.returns-then-eq-clause-second
returns-then-eq-clause-second c = λ _.
    let within : 1 < length c.args.words.now = omega arith in
    at_word c.args.words.now 1 _ within ∙ ap Some ((bytes_decides _ _).0 (sym c.if-eq.ensures))

pub returns-else-eq-clause-not : goal.returns-else-eq-clause-not
returns-else-eq-clause-not c = λ _ second _.
    let within : 1 < length c.args.words.now = omega arith in
    let f : false ≡ true = c.if-eq.ensures ∙ (bytes_decides _ _).1 (is_word c.args.words.now 1 _ _ within second) in cc
