use Rattle.std.proofs.Common.{◌≡◌, ◌∙◌, ap, sym, Some, true, false}
use Rattle.std.specs.Cmp.Lexicographic.{bytes_decides}
use Rattle.cli_words.proofs.CommandLineArguments.{at_word, is_word}
use Rattle.cli_held.specs.Todo.{texts}
use Rattle.cli_held.proofs.Saying.{seconds_behind}
use Rattle.cli_held.proofs.line.seconds_behind.Goals as goal

pub returns-then-eq : goal.returns-then-eq
returns-then-eq c =
    seconds_behind (texts c.args.words.now) c.args.i c.seconds_at.result (at_word c.args.words.now c.args.i _ c.requires ∙ ap Some ((bytes_decides _ _).0 (sym c.if-eq.ensures))) c.seconds_at.ensures

pub returns : goal.returns
returns c = λ n gives.
    let no : true ≡ false = sym ((bytes_decides _ _).1 (is_word c.args.words.now c.args.i _ _ c.requires gives.0)) ∙ sym c.if-eq.ensures in
    absurd (cc no)
