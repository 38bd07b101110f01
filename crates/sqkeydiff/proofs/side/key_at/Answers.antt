use Rattle.std.proofs.Common.{◌∙◌, sym, ap}
use Rattle.sqkeydiff.specs.KeyChanges.{key_of}
use Rattle.sqkeydiff.proofs.side.key_at.Goals as goal

pub returns-in-Ok-key_of-clause-ok : goal.returns-in-Ok-key_of-clause-ok
returns-in-Ok-key_of-clause-ok c = λ r at. ap (key_of c.args.width) ((c.in-Ok.ensures.ok r).0 at) ∙ sym c.in-Ok-key_of.ensures
