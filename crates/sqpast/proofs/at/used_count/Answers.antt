use Rattle.std.proofs.Common.{cond, min, ◌∙◌, ap}
use Rattle.std.specs.Prelude.{◌==◌}
use Rattle.sqpast.proofs.at.used_count.Goals as goal

pub returns : goal.returns
returns c = c.used_of.ensures ∙ ap (λ n. cond (n == 0) c.args.most (min n c.args.most)) c.header_count.ensures
