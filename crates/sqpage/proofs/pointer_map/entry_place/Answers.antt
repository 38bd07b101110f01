use Rattle.std.proofs.Common.{◌-◌}
use Rattle.sqpage.proofs.file.PointerMapGroups.{no_place}
use Rattle.sqpage.proofs.pointer_map.entry_place.Goals as goal

pub returns-then-p-map : goal.returns-then-p-map
returns-then-p-map c = no_place c.args.page_size (c.args.page_size - c.args.reserved) c.args.p c.map_near-map.result c.map_near-map.ensures.near c.if-p-map.true
