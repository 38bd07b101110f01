use Rattle.sqcheck.proofs.Between.{arith, cell_count, inl, inr, rise_breaks, rise_ends, rise_goes_on, says_no, says_yes, ◌<◌, ◌≤◌}
use Rattle.sqcheck.proofs.node.keys_rise.Goals.{then-not-is_behind-via-then-not-is_behind, then-not-is_behind-via-else-not-is_behind+then-not-is_at_most}
use Rattle.sqcheck.proofs.node.keys_rise.Goals as goal

pub returns-then-not-is_behind-clause-not : goal.returns-then-not-is_behind-clause-not
returns-then-not-is_behind-clause-not c = λ x e f _.
    let lt : c.cells.i < cell_count c.args.page.now = omega (arith, c.len-i-end.ensures, c.cells-test.true) in
    rise_breaks c.args.page.now c.args.low c.args.high c.cells.i c.cells.before c.cell_with-key.result x c.cells.invariant (lt, c.cell_with-key.ensures.cell) e f (elim c.then-not-is_behind.branch [
      | then-not-is_behind-via-then-not-is_behind w ↦ inl (says_no c.is_behind.result _ c.is_behind.ensures w.if-not-is_behind.true)
      | then-not-is_behind-via-else-not-is_behind+then-not-is_at_most w ↦ inr (says_no w.is_at_most.result _ w.is_at_most.ensures w.if-not-is_at_most.true)
    ])

pub cells-preserved : goal.cells-preserved
cells-preserved c =
    let lt : c.cells.i < cell_count c.args.page.now = omega (arith, c.len-i-end.ensures, c.cells-test.true) in
    rise_goes_on c.args.page.now c.args.low c.args.high c.cells.i c.cells.before c.cell_with-key.result c.cells.invariant (lt, c.cell_with-key.ensures.cell)
    (says_yes c.is_behind.result _ c.is_behind.ensures c.if-not-is_behind.false) (says_yes c.is_at_most.result _ c.is_at_most.ensures c.if-not-is_at_most.false)

pub returns-clause-yes : goal.returns-clause-yes
returns-clause-yes c = λ x e f _.
    let le : cell_count c.args.page.now ≤ c.cells.i = omega (arith, c.len-i-end.ensures, c.cells-test.false) in
    rise_ends c.args.page.now c.args.low c.args.high c.cells.i c.cells.before x c.cells.invariant le e f
