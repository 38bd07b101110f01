use Rattle.std.proofs.Common.{◌≤◌, arith}
use Rattle.sqpage.proofs.btree.LayoutOfPage.{span_here}
use Rattle.sqpage.proofs.btree.FallingCells.{falling_goes_on}
use Rattle.sqpage.proofs.page.BtreePage.falling_cells.Goals as goal

pub cells-preserved : goal.cells-preserved
cells-preserved c =
    let h = span_here _ c.args.self.now c.args.parts.now c.cells.i _ c.pointer-at.result c.max-end.result c.self.view_is c.requires c.len-i-end.ensures c.cells-test.true c.pointer-at.ensures.value c.max-end.ensures in
    let rise : c.pointer-at.result ≤ c.max-end.result = omega (arith, h.enough) in
    falling_goes_on c.args.self.now c.cells.before c.cells.i c.pointer-at.result c.max-end.result c.cells.taken c.cells.invariant h.below h.is rise c.if-end-before.false
