use Rattle.std.proofs.lemmas.Iterator.Consumers.{nth_from_yields_List, YieldsList-from_first}
use Rattle.sqval.specs.Datum.{datum_of}
use Rattle.sqval.proofs.record.Record.column.Goals as goal

pub returns : goal.returns
returns c =
    nth_from_yields_List c.nth.result _ c.args.index c.nth.ensures.ran
    (YieldsList-from_first datum_of (λ values. values) c.args.self.now c.columns.ensures)
