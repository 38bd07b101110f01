use Rattle.std.proofs.Common.{take, refl, arith}
use Rattle.sqpage.proofs.btree.PartsOfCells.{sound, page_of}
use Rattle.sqpage.proofs.page.BtreePage.new.Goals as goal

pub invariant_of-result : goal.invariant_of-result
invariant_of-result c =
    sound c.args.bytes.now c.args.usable c.args.number c.in-Some.kind c.head.result c.pointers.result c.count.result c.content_start.result c.requires.usable c.head.ensures.value ((c.in-Some.ensures c.in-Some.kind).0 refl)
    c.pointers.ensures.value c.count.ensures.value c.content_start.ensures (omega (arith, c.if-pointers-count.false)) (omega (arith, c.if-content_start-used.false)) (c.cells_lie_within.ensures.yes c.if-not-cells_lie_within.false)

pub returns-clause-ok : goal.returns-clause-ok
returns-clause-ok c = page_of (take c.args.usable c.args.bytes.now) c.args.number c.in-Some.kind (invariant_of-result c) (c.cells_lie_within.ensures.yes c.if-not-cells_lie_within.false)
