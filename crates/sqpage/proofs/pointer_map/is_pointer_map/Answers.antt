use Rattle.std.proofs.Common.{◌-◌, eq-eqb}
use Rattle.std.proofs.lemmas.Bool.{eqb-true}
use Rattle.sqpage.proofs.file.PointerMapGroups.{map_here, map_there}
use Rattle.sqpage.proofs.pointer_map.is_pointer_map.Goals as goal

pub returns-then-p-ge2 : goal.returns-then-p-ge2
returns-then-p-ge2 c =
    let size = c.args.page_size in
    let usable = c.args.page_size - c.args.reserved in
    let near = c.map_near.ensures.near in (
      λ t. map_here size usable c.args.p c.map_near.result near (eqb-true c.map_near.result c.args.p t),
      λ is. eq-eqb c.map_near.result c.args.p (map_there size usable c.args.p c.map_near.result near c.map_near.ensures.room is),
    )
