use Rattle.std.proofs.Common.{arith}
use Rattle.sqdeleted.proofs.PlacesLeft.{free_left}
use Rattle.sqdeleted.proofs.cursor.DeletedCells.of_free_page.Goals as goal

pub returns-clause-left : goal.returns-clause-left
returns-clause-left c = λ at parts. free_left c.args.used.now at parts (omega (arith, c.requires.sized.0))
