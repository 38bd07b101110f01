use Rattle.std.proofs.lemmas.List.{take_min}
use Rattle.cli_show_deep.specs.Parts.{most_listed}
use Rattle.cli_show_deep.proofs.parts.first_of.Goals as goal

pub returns : goal.returns
returns c = rw c.min.ensures (take_min most_listed c.args.all.now)
