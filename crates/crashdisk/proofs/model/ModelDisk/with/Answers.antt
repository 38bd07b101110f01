use Rattle.crashdisk.proofs.Words.{arith, refl}
use Rattle.crashdisk.proofs.model.ModelDisk.with.Goals as goal

pub invariant_of-result : goal.invariant_of-result
invariant_of-result c = record {
  is_size = c.requires;
  db_held = c.in_ok-file.ensures.stands.held;
  db_solid = c.in_ok-file.ensures.stands.solid;
  log_held = (c.empty.ensures.stands c.args.sector c.requires).held;
  log_solid = (c.empty.ensures.stands c.args.sector c.requires).solid;
  counted = omega arith;
  kept_room = λ tears. omega (arith, (c.empty.ensures.settled c.args.sector).greatest);
  untorn = λ whole. (c.new-2.ensures.kept, c.new-2.ensures.handed);
}

pub returns-clause-made : goal.returns-clause-made
returns-clause-made c = record {
  sector = refl;
  tears = refl;
  refused = refl;
  db = c.in_ok-file.ensures.settled;
  log = c.empty.ensures.settled c.args.sector;
  kept = c.new-2.ensures.kept;
  handed = c.new-2.ensures.handed;
}
