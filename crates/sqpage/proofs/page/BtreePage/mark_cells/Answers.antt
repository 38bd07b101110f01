use Rattle.std.proofs.Common.{◌≡◌, ℕ, ◌+◌, ◌-◌, ◌*◌, ◌≤◌, ◌∙◌, length, min, ap, sym, subst, refl, arith}
use Rattle.sqpage.specs.Layout.{IsCellSpan}
use Rattle.sqpage.specs.internal.Marking.{bytes_before}
use Rattle.sqpage.specs.Page.{Page}
use Rattle.sqpage.proofs.btree.LayoutOfPage.{span_here, marking_ends}
use Rattle.sqpage.proofs.btree.CellsInRuns.{from_to, running_begins, running_on, run_marked, run_touches, run_begins}
use Rattle.sqpage.proofs.page.BtreePage.mark_cells.Goals.{then-end-low+else-not-mark, else-end-low}
use Rattle.sqpage.proofs.page.BtreePage.mark_cells.Goals as goal

same_size : (p q : Page) → p ≡ q → length p.used ≡ length q.used
same_size p q e = ap (λ (p : Page). length p.used) e

pub cells-init : goal.cells-init
cells-init c =
    let size = same_size _ c.args.self.now c.self.view_is in
    record { running = running_begins c.args.self.now c.args.map.now _; order = omega arith; within = omega (arith, size); bounded = omega arith; same_length = refl }

pub mark-requires-clause-within : goal.mark-requires-clause-within
mark-requires-clause-within c = let i = c.cells.invariant in omega (arith, i.order, i.within, i.same_length, c.requires.room)

pub mark-requires-clause-fits : goal.mark-requires-clause-fits
mark-requires-clause-fits c = let i = c.cells.invariant in omega (arith, i.order, i.within, same_size _ c.args.self.now c.self.view_is, c.self.invariant.most)

pub returns-then-not-mark-clause-touched : goal.returns-then-not-mark-clause-touched
returns-then-not-mark-clause-touched c =
    run_touches c.args.self.now c.args.map.now c.cells.map c.cells.low c.cells.high c.cells.i c.cells.taken c.cells.invariant.running (c.mark.ensures.touched c.if-not-mark.true)

pub overflow_sub-taken : goal.overflow_sub-taken
overflow_sub-taken c =
    let h = span_here _ c.args.self.now c.args.parts.now c.cells.i _ c.pointer-at.result c.max-end.result c.self.view_is c.requires.parts c.len-i-end.ensures c.cells-test.true c.pointer-at.ensures.value c.max-end.ensures in
    least_of c.pointer-at.result c.max-end.result (length c.self.inside.used.now) c.min.result c.min.ensures (omega (arith, h.enough)) (omega (arith, h.low, h.same_size))
  where
    least_of : (at end len m : ℕ) → m ≡ min end len → at ≤ end → at ≤ len → at ≤ m
    least_of at end len m e a b = grind arith

pub cells-preserved : goal.cells-preserved
cells-preserved c =
    let q : Page = c.args.self.now in
    let at = c.pointer-at.result in
    let end = c.max-end.result in
    let i = c.cells.invariant in
    let h = span_here _ c.args.self.now c.args.parts.now c.cells.i _ c.pointer-at.result c.max-end.result c.self.view_is c.requires.parts c.len-i-end.ensures c.cells-test.true c.pointer-at.ensures.value c.max-end.ensures in
    let rise : at ≤ end = omega (arith, h.enough) in
    let whole : at + (end - at) ≡ end = omega (arith, rise) in
    let counted : c.min.result - at ≡ bytes_before (length q.used) (from_to at end) = ap (λ m. m - at) (c.min.ensures ∙ ap (λ n. min end n) h.same_size ∙ ap (λ n. min n (length q.used)) (sym whole)) in
    let bounded = few end (length c.self.inside.used.now) c.min.result at c.cells.taken c.cells.i c.min.ensures c.self.invariant.most i.bounded in
    elim c.if-end-low.branch [
      | then-end-low+else-not-mark w ↦ rw (w.high-is, w.map-is) (record {
        running = run_begins q c.args.map.now w.mark.new.map c.cells.i c.cells.taken at end (c.min.result - at)
            (run_marked q c.args.map.now c.cells.map c.cells.low c.cells.high c.cells.i c.cells.taken i.running w.mark.new.map (w.mark.ensures.marked w.if-not-mark.false)) rise h.below h.is counted;
        order = rise;
        within = h.high;
        bounded = bounded;
        same_length = w.mark.ensures.length ∙ i.same_length;
      })
      | else-end-low w ↦
          let e : end ≡ c.cells.low = w.if-end-low.false in
          rw (w.high-is, w.map-is) (record {
            running = running_on q c.args.map.now c.cells.map c.cells.low c.cells.high c.cells.i c.cells.taken i.running at (c.min.result - at) (omega (arith, e, rise)) i.order h.below
                (subst (λ n. IsCellSpan q c.cells.i (from_to at n)) e h.is) (counted ∙ ap (λ n. bytes_before (length q.used) (from_to at n)) e);
            order = omega (arith, e, rise, i.order);
            within = i.within;
            bounded = bounded;
            same_length = i.same_length;
          })
    ]
  where
    few : (end len m at taken i : ℕ) → m ≡ min end len → len ≤ 65536 → taken ≤ 65536 * i → taken + (m - at) ≤ 65536 * (i + 1)
    few end len m at taken i e a b = let le : m ≤ len = grind arith in omega (arith, le)

pub returns-then-mark-clause-marked : goal.returns-then-mark-clause-marked
returns-then-mark-clause-marked c =
    marking_ends c.args.self.now c.args.map.now c.mark-2.new.map c.cells.i c.cells.taken
    (run_marked c.args.self.now c.args.map.now c.cells.map c.cells.low c.cells.high c.cells.i c.cells.taken c.cells.invariant.running c.mark-2.new.map (c.mark-2.ensures.marked c.if-mark.true))
    (omega (arith, c.len-i-end.ensures, c.cells-test.false, c.cells.auto.i-end))

pub returns-else-mark-clause-touched : goal.returns-else-mark-clause-touched
returns-else-mark-clause-touched c =
    run_touches c.args.self.now c.args.map.now c.cells.map c.cells.low c.cells.high c.cells.i c.cells.taken c.cells.invariant.running (c.mark-2.ensures.touched c.if-mark.false)
