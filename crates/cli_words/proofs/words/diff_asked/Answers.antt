use Rattle.std.proofs.Common.{refl}
use Rattle.cli_words.proofs.OptionsOfCommand.{at_none, diff_told}
use Rattle.cli_words.proofs.words.diff_asked.Goals as goal

pub returns : goal.returns
returns c = diff_told _ _ _ c.rows_or_deleted.result (c.if-not-are_known.ensures.yes refl) (at_none c.args.options.at c.if-is_some.ensures) c.rows_or_deleted.ensures
