use Rattle.crashdisk.proofs.Between.{file_of, solid_ended}
use Rattle.crashdisk.proofs.calls.end_held.Goals as goal

pub returns-clause-stands : goal.returns-clause-stands
returns-clause-stands c = record {
  held = c.end.ensures.held;
  solid = solid_ended c.args.sector c.args.end (file_of c.args.sector c.args.held.now) (file_of c.args.sector c.end.new.self) c.end.ensures.held.positive c.requires.solid c.end.ensures.ended;
}
