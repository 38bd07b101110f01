use Rattle.std.proofs.lemmas.Str.Pattern.{contains_text}
use Rattle.cli_facts.proofs.locks.has.Goals as goal

pub returns : goal.returns
returns c = contains_text c.contains.result _ _ c.contains.ensures.cases
