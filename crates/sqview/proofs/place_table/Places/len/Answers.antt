use Rattle.std.proofs.Common.{length, sym, ap, ◌∙◌}
use Rattle.sqview.specs.internal.Places.{PlaceTable}
use Rattle.sqview.proofs.place.TableOfPlaces.{table_long}
use Rattle.sqview.proofs.place_table.Places.len.Goals as goal

pub returns : goal.returns
returns c = sym (table_long c.self.inside.count c.self.inside.low.items c.self.inside.high) ∙ ap (λ (t : PlaceTable). length t.items) c.self.view_is
