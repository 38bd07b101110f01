use Rattle.std.proofs.Common.{◌-◌, ◌<◌, length, arith}
use Rattle.cli_words.proofs.CommandLineArguments.{at_word}
use Rattle.cli_held.proofs.line.may_say.Goals as goal

pub returns-then-is_value-clause-not : goal.returns-then-is_value-clause-not
returns-then-is_value-clause-not c = λ no opens.
    let within : c.args.i - 1 < length c.args.words.now = omega (arith, c.requires, opens.behind) in
    absurd (opens.own _ (at_word c.args.words.now (c.args.i - 1) _ within) (c.is_value.ensures.yes c.if-is_value.true))
