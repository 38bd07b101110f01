use Rattle.std.proofs.Common.{take, ap, ◌∙◌}
use Rattle.sqview.specs.internal.Places.{PlaceTable}
use Rattle.sqview.proofs.place.TableOfPlaces.{table_short}
use Rattle.sqview.proofs.place_table.Places.shorten.Goals as goal

pub returns-clause-items : goal.returns-clause-items
returns-clause-items c =
    table_short c.self.inside.count c.self.inside.low.items c.self.inside.high c.args.count c.min-self-inside.result c.min-self-inside.ensures
    ∙ ap (λ (t : PlaceTable). take c.args.count t.items) c.self.view_is
