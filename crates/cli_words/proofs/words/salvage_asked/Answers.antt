use Rattle.std.proofs.Common.{refl}
use Rattle.cli_words.proofs.CommandLineArguments.{told}
use Rattle.cli_words.proofs.words.salvage_asked.Goals as goal

pub returns : goal.returns
returns c =
    (c.if-not-are_known.ensures.yes refl, (c.in_ok-to.to, c.stands_in-places.result, c.in_ok-to.ensures, (c.stands_in-places.ensures.yes, told _ _ c.stands_in-places.ensures.not), refl))
