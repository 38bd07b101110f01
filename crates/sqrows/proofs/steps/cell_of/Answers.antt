use Rattle.std.proofs.Common.{subst, refl}
use Rattle.sqpage.specs.Page.{pointer_in, HasParts}
use Rattle.sqpage.proofs.btree.PartsOfCells.{has_no_cell}
use Rattle.sqrows.proofs.steps.cell_of.Goals as goal

pub cell_with-requires-clause-parts : goal.cell_with-requires-clause-parts
cell_with-requires-clause-parts c =
    subst (λ at. HasParts c.args.kind c.args.used.now at c.in-Some.parts) c.pointer-at.ensures.value ((c.in-Some.ensures.found c.in-Some.parts).0 refl)

pub returns-in-None-clause-cell : goal.returns-in-None-clause-cell
returns-in-None-clause-cell c = λ cell is.
    has_no_cell c.args.kind c.args.used.now c.pointer-at.result (pointer_in c.args.kind c.args.used.now c.args.number c.args.i) c.parts_at.result c.pointer-at.ensures.value c.parts_at.ensures.found c.in-None.is
    (is.1.parts, is.1.has)
