use Rattle.std.proofs.Common.{length, arith}
use Rattle.sqjournal.proofs.read.JournalOfTakenBytes.{size_bounds}
use Rattle.cli_show.proofs.cells.usable_size.Goals as goal

pub bounds-first-20 : goal.bounds-first-20
bounds-first-20 c = omega (arith, (size_bounds (length c.args.first.now) c.requires).0)

pub overflow_sub-usable : goal.overflow_sub-usable
overflow_sub-usable c = omega (arith, (size_bounds (length c.args.first.now) c.requires).0, c.from.ensures, c.from.type_inv)

pub returns-then-usable-lt480-clause-least : goal.returns-then-usable-lt480-clause-least
returns-then-usable-lt480-clause-least c = omega (arith, (size_bounds (length c.args.first.now) c.requires).0)
