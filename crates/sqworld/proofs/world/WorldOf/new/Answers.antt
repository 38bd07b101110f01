use Rattle.sqworld.proofs.Facts.{ap, life_begins, rules, served_none}
use Rattle.std.specs.Prelude.{Some}
use Rattle.sqworld.proofs.world.WorldOf.new.Goals as goal

pub returns : goal.returns
returns g c = record {
  engine = g.E.Engine.kind.closed c.in-Ok.disk;
  is_there = ap (λ e. Some e) c.closed.ensures.is;
  page_size = search rules;
  tears = search rules;
  served = served_none g.E.Engine.kind g.met.E.Engine.lawful c.args.base.now c.in-Ok.disk c.new.result c.in-Ok.ensures c.new.ensures.replies c.new.ensures.refused c.new.ensures.found c.new.ensures.crashed;
  life = life_begins g.E.Engine.kind c.args.base.now c.in-Ok.disk c.new.result c.in-Ok.ensures c.new.ensures.replies c.new.ensures.refused c.new.ensures.found c.new.ensures.crashed;
}
