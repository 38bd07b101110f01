use Rattle.std.proofs.Common.{◌<◌, inr, subst, arith}
use Rattle.sqpage.proofs.btree.PartsOfCells.{has_no_cell, one_more}
use Rattle.sqpage.proofs.page.cells_lie_within.Goals as goal

pub returns-in-None-clause-not : goal.returns-in-None-clause-not
returns-in-None-clause-not c = λ _. (c.cells.i, subst (λ n. c.cells.i < n) c.count-i-end.ensures.value (omega (arith, c.cells-test.true)), inr (has_no_cell _ _ _ _ c.parts_at.result c.pointer-at.ensures.value c.parts_at.ensures.found c.in-None.is))

pub cells-preserved : goal.cells-preserved
cells-preserved c = one_more c.args.kind c.args.used.now c.args.number c.cells.i c.content_start-start.result c.pointer-at.result c.parts_at.result _ c.cells.invariant c.content_start-start.ensures c.pointer-at.ensures.value (omega arith) c.parts_at.ensures.found c.in-Some.is

pub returns-clause-yes : goal.returns-clause-yes
returns-clause-yes c = λ _ k lt. c.cells.invariant k (omega (arith, c.count-i-end.ensures.value, c.cells-test.false))
