use Rattle.std.proofs.Common.{◌∙◌}
use Rattle.clap.specs.Words.{found_of}
use Rattle.clap.proofs.WalkLemmas.{first_value-rows}
use Rattle.sqcrash.proofs.WordsAsked.{value_of}
use Rattle.sqcrash.proofs.commands.value.Goals as goal

pub returns : goal.returns
returns c = value_of c.get_str.result _ (c.get_str.ensures ∙ first_value-rows (found_of c.args.matches.now) c.args.name.now)
