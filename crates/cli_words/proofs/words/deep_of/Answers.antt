use Rattle.cli_words.proofs.CommandLineArguments.{told}
use Rattle.cli_words.proofs.words.deep_of.Goals as goal

pub returns-then-deep : goal.returns-then-deep
returns-then-deep c = (c.stands_in-deep.ensures.yes c.if-deep.true, (c.stands_in-complete.ensures.yes, told _ _ c.stands_in-complete.ensures.not))
