use Rattle.std.proofs.Common.{◌<◌, ◌∙◌, length, inr, subst, arith}
use Rattle.std.proofs.lemmas.List.{length-set}
use Rattle.sqpage.proofs.btree.PartsOfCells.{has_no_cell, one_more_read}
use Rattle.sqpage.proofs.page.read_parts_of.Goals as goal

pub returns-in-None-clause-not : goal.returns-in-None-clause-not
returns-in-None-clause-not c = λ _. (c.cells.i, subst (λ n. c.cells.i < n) c.count-i-end.ensures.value (omega (arith, c.cells-test.true)), inr (has_no_cell _ _ _ _ c.parts_at.result c.pointer-at.ensures.value c.parts_at.ensures.found c.in-None.is))

pub cells-preserved : goal.cells-preserved
cells-preserved c =
    let i = c.cells.invariant in
    let count : c.cells.i < length c.cells.parts = omega (arith, i.same_length, c.count-i-end.ensures.value, c.cells-test.true, c.requires.room) in
    record {
      read = one_more_read c.args.kind c.args.used.now c.args.number c.cells.i c.content_start-start.result c.pointer-at.result c.in-Some.found c.cells.parts i.read count c.content_start-start.ensures c.pointer-at.ensures.value c.if-at-start.false
          ((c.parts_at.ensures.found c.in-Some.found).0 c.in-Some.is);
      same_length = length-set c.cells.parts c.cells.i c.in-Some.found ∙ i.same_length;
    }
