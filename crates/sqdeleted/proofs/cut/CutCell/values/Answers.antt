use Rattle.std.proofs.lemmas.Result.{IfOk-weaker}
use Rattle.sqval.specs.Datum.{row_of}
use Rattle.sqdeleted.specs.Cut.{AreHeld}
use Rattle.sqdeleted.specs.internal.Values.{AreFirst}
use Rattle.sqdeleted.proofs.CutValues.{held_all}
use Rattle.sqdeleted.proofs.cut.CutCell.values.Goals as goal

pub returns : goal.returns
returns c = λ filled.
    let types = c.args.self.now.types.now in
    let bodies = c.args.self.now.bodies.now in
    IfOk-weaker c.first_values.result (λ values. AreFirst types bodies (row_of values.items)) (λ values. AreHeld types bodies (row_of values.items))
    (λ values first. held_all types bodies (row_of values.items) filled first) (c.first_values.ensures filled.0 filled.1)
