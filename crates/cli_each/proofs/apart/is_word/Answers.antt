use Rattle.std.proofs.Common.{◌∙◌, ap, sym, arith, ◌<◌, ◌≡◌, length, true, false}
use Rattle.std.specs.Prelude.{Some}
use Rattle.std.specs.Cmp.Lexicographic.{bytes_decides}
use Rattle.cli_words.proofs.CommandLineArguments.{at_word, is_word}
use Rattle.cli_each.proofs.apart.is_word.Goals as goal

pub returns-clause-yes : goal.returns-clause-yes
returns-clause-yes c = λ t.
    let within : c.args.at < length c.args.words.now = omega (arith, c.if-words-at.false) in
    at_word c.args.words.now c.args.at _ within ∙ ap Some ((bytes_decides _ _).0 (sym c.eq.ensures ∙ t))

pub returns-clause-not : goal.returns-clause-not
returns-clause-not c = λ f is.
    let within : c.args.at < length c.args.words.now = omega (arith, c.if-words-at.false) in
    let same = (bytes_decides _ _).1 (is_word c.args.words.now c.args.at _ c.args.text.now within is) in
    let t : true ≡ false = sym (c.eq.ensures ∙ same) ∙ f in
    absurd (cc t)
