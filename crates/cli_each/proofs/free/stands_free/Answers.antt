use Rattle.std.proofs.Common.{refl}
use Rattle.cli_each.proofs.FreeWords.{free_behind, free_plain, option_not_free, value_not_free}
use Rattle.cli_words.proofs.CommandLineArguments.{not_false, not_true}
use Rattle.cli_each.proofs.free.stands_free.Goals as goal

pub returns-then-has_dashes-clause-yes : goal.returns-then-has_dashes-clause-yes
returns-then-has_dashes-clause-yes c = λ _. free_behind c.args.words.now c.args.i c.requires.behind c.requires.within (c.if-has_dashes.ensures.yes refl)

pub returns-then-is_plain-clause-yes : goal.returns-then-is_plain-clause-yes
returns-then-is_plain-clause-yes c = λ t. free_plain c.args.words.now c.args.i c.requires.behind c.requires.within _ _
    (c.if-is_plain.ensures.yes refl) (c.takes_value.ensures.not (not_true _ t))

pub returns-then-is_plain-clause-not : goal.returns-then-is_plain-clause-not
returns-then-is_plain-clause-not c = λ f. value_not_free c.args.words.now c.args.i c.requires.behind c.requires.within _
    (c.if-has_dashes.ensures.not refl) (c.takes_value.ensures.yes (not_false _ f))

pub returns-else-is_plain-clause-not : goal.returns-else-is_plain-clause-not
returns-else-is_plain-clause-not c = λ _. option_not_free c.args.words.now c.args.i c.requires.behind c.requires.within _
    (c.if-has_dashes.ensures.not refl) (c.if-is_plain.ensures.not refl)
