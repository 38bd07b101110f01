use Rattle.std.proofs.Common.{inr, refl, arith}
use Rattle.sqsalvage.proofs.cursor.Salvage.name_place.Goals as goal

pub returns-then-i-cells-clause-ok : goal.returns-then-i-cells-clause-ok
returns-then-i-cells-clause-ok c = inr ((let n = c.cells.ensures.value in let no = c.if-i-cells.true in omega (arith, n, no)), refl)
