use Rattle.std.proofs.Common.{map}
use Rattle.cli_words.proofs.CommandLineArguments.{told}
use Rattle.cli_words.proofs.words.asks_complete.Goals as goal

pub returns : goal.returns
returns c = (map (λ w. w.now) c.options_of.result.now, c.options_of.ensures, (c.stands_in.ensures.yes, told _ _ c.stands_in.ensures.not))
