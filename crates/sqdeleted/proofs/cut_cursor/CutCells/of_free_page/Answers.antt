use Rattle.std.proofs.Common.{arith}
use Rattle.sqdeleted.proofs.CutPlaces.{free_cuts}
use Rattle.sqdeleted.proofs.cut_cursor.CutCells.of_free_page.Goals as goal

pub returns-clause-left : goal.returns-clause-left
returns-clause-left c = free_cuts c.args.used.now c.args.whole.now c.args.number (omega (arith, c.requires.sized.0))
