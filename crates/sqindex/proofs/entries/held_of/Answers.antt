use Rattle.std.proofs.Common.{◌∙◌, arith}
use Rattle.sqindex.proofs.BodiesOfEntries.{start_back, size_back}
use Rattle.sqindex.proofs.entries.held_of.Goals as goal

pub returns-clause-many : goal.returns-clause-many
returns-clause-many c = λ many. (
  omega arith,
  start_back c.place_body.result c.args.start (omega (arith, c.ranges.start.fits)) c.place_body.ensures.start,
  size_back c.place_body.result c.args.size (omega (arith, c.ranges.size.fits)) c.place_body.ensures.size ∙ c.requires,
)
