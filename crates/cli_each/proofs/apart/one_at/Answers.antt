use Rattle.std.proofs.Common.{refl, ◌+◌}
use Rattle.cli_each.specs.Lines.{texts}
use Rattle.cli_each.proofs.OneFile.{none_there, one_last, one_numbered, word_there}
use Rattle.cli_each.proofs.apart.one_at.Goals as goal

pub returns-in-Some : goal.returns-in-Some
returns-in-Some c =
    let found = c.in-Some.ensures.lookup in
    one_numbered (texts c.args.words.now) c.args.at c.in-Some.word.now.now c.number_in.result (c.if-not-is_word.ensures.yes refl)
    (word_there c.args.words.now (c.args.at + 1) c.in-Some.word.now found.3.0 found.1) c.number_in.ensures

pub returns-in-None : goal.returns-in-None
returns-in-None c = one_last (texts c.args.words.now) c.args.at (none_there c.args.words.now (c.args.at + 1) c.in-None.ensures.lookup.3)
