use Rattle.std.proofs.Common.{◌∙◌, sym, ap, length}
use Rattle.sqval.proofs.payload.SerialTypesAndBodies.{length-values_held}
use Rattle.sqval.proofs.record.Record.len.Goals as goal

pub returns : goal.returns
returns c = c.self.invariant.0 ∙ sym (length-values_held _ c.self.inside.bodies.now) ∙ ap length c.self.view_is
