use Rattle.std.proofs.Common.{arith}
use Rattle.sqpage.specs.Page.{Page}
use Rattle.sqpage.proofs.btree.LayoutOfPage.{start_in, first_in, the_end}
use Rattle.sqpage.proofs.btree.FallingCells.{cells_take}
use Rattle.sqpage.proofs.page.BtreePage.taken_at_sight.Goals as goal

pub returns : goal.returns
returns c =
    let q : Page = c.args.self.now in
    let s = start_in _ q c.self.view_is c.content_start.result c.content_start.ensures in
    let f = first_in _ q c.self.view_is c.half_at-first.result c.head.result c.head.ensures.value c.half_at-first.ensures.value in
    let e = the_end _ q c.self.view_is c.pointers.result c.len.result c.pointers.ensures.value c.len.ensures in
    cells_take q c.half_at-first.result c.falling_cells.result f (omega (arith, c.if-first-ne0.false)) (omega (arith, s, e, c.if-end-content_start.false)) c.falling_cells.ensures
