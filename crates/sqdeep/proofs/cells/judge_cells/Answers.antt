use Rattle.std.proofs.Common.{◌≡◌, ◌∙◌, ℕ, ◌+◌, ◌<◌, ◌≤◌, Bool, true, false, cond, refl, sym, ap, subst, arith}
use Rattle.sqpage.specs.Page.{cell_count}
use Rattle.sqcheck.specs.Places.{IsCellAt, page_as}
use Rattle.sqcheck.proofs.checks.ResultsOfCalls.{exits}
use Rattle.sqdeep.specs.declared.text.Encoding.{Encoding}
use Rattle.sqdeep.specs.internal.Judging.{AreSoundCells, Tells}
use Rattle.sqdeep.specs.internal.IllFormed.{HasCellForm, HasIllFormed}
use Rattle.sqdeep.proofs.CellsOfPage.{cells_more, cell_told}
use Rattle.sqdeep.proofs.IllFormedCells.{ill_more}
use Rattle.sqdeep.proofs.cells.judge_cells.Goals as goal

more_of : (before n : ℕ) (b : Bool) → cond b (before + n + 1) (before + n) ≡ before + cond b (n + 1) n
more_of before n true = omega arith
more_of before n false = refl

at_most : (n i : ℕ) (b : Bool) (m : ℕ) → m ≡ cond b (n + 1) n → n ≤ i → m ≤ i + 1
at_most n i true m e le = omega (arith, e, le)
at_most n i false m e le = omega (arith, e, le)

pub cells-init : goal.cells-init
cells-init g c = record {
  sound = λ right i cell lt at. absurd (omega (arith, lt));
  counted = λ right trees kind root is w before h. subst (HasIllFormed g.V.Snapshot.pages c.args.page.now.number 0) (omega arith) h;
  most = omega arith;
  same = c.requires.same;
}

pub judge_cell-requires-clause-cell : goal.judge_cell-requires-clause-cell
judge_cell-requires-clause-cell g c = record {
  least = c.cell_with-cell.ensures.least;
  most = (let u = c.cell_with-cell.ensures.cell.usable in omega (arith, u, c.requires.most));
  part = c.cell_with-cell.ensures.part;
}

pub cells-preserved : goal.cells-preserved
cells-preserved g c =
    let d = g.V.Snapshot.pages in
    let p : ℕ = c.args.page.now.number in
    let cell = c.cell_with-cell.result in
    let is_ill : Bool = c.in_ok-is_ill.is_ill in
    let n : ℕ = c.cells.count in
    let lt : c.cells.i < cell_count c.args.page.now = omega (arith, c.len-i-end.ensures, c.cells-test.true) in
    record {
      sound = λ right. cells_more d c.args.page.now c.cells.i cell (c.cells.invariant.sound right) (lt, c.cell_with-cell.ensures.cell) (c.in_ok-is_ill.ensures.ok right);
      counted = λ right trees kind root is w before h.
          let at : IsCellAt (page_as d kind p) c.cells.i cell = subst (λ b. IsCellAt b c.cells.i cell) is (lt, c.cell_with-cell.ensures.cell) in
          let form = subst (λ (n : Encoding). HasCellForm is_ill n d cell) (c.requires.encoding right) (c.in_ok-is_ill.ensures.form right) in
          let more = ill_more d trees kind root p w.of_tree c.cells.i (before + n) cell is_ill at form (c.cells.invariant.counted right trees kind root is w before h) in
          subst (HasIllFormed d p (c.cells.i + 1)) (more_of before n is_ill ∙ ap (λ (m : ℕ). before + m) (sym c.one_more-count.ensures)) more;
      most = (let m = c.cells.invariant.most in let e = c.one_more-count.ensures in at_most n c.cells.i is_ill c.one_more-count.result e m);
      same = c.judge_cell.ensures.same;
    }

pub returns-clause-ok : goal.returns-clause-ok
returns-clause-ok g c = λ right.
    let all : c.cells.i ≡ cell_count c.args.page.now = omega (arith, c.len-i-end.ensures, c.cells-test.false, c.cells.auto.i-end) in
    subst (AreSoundCells g.V.Snapshot.pages c.args.page.now) all (c.cells.invariant.sound right)

pub returns-clause-counted : goal.returns-clause-counted
returns-clause-counted g c = λ right trees kind root is w before h.
    let all : c.cells.i ≡ cell_count c.args.page.now = omega (arith, c.len-i-end.ensures, c.cells-test.false, c.cells.auto.i-end) in
    subst (λ (i : ℕ). HasIllFormed g.V.Snapshot.pages c.args.page.now.number i (before + c.cells.count)) all (c.cells.invariant.counted right trees kind root is w before h)

pub returns-in_err-is_ill-clause-err : goal.returns-in_err-is_ill-clause-err
returns-in_err-is_ill-clause-err g c = λ right kind root e w.
    let d = g.V.Snapshot.pages in
    let p : ℕ = c.args.page.now.number in
    let cell = c.cell_with-cell.result in
    let fault = c.in_err-is_ill.field-0.0 in
    let lt : c.cells.i < cell_count c.args.page.now = omega (arith, c.len-i-end.ensures, c.cells-test.true) in
    let is : IsCellAt (page_as d kind p) c.cells.i cell = subst (λ b. IsCellAt b c.cells.i cell) e (lt, c.cell_with-cell.ensures.cell) in
    let has = w.payloads c.cells.i cell is in
    exits (Tells g.V.Snapshot.given d) fault c.from_residual.result c.from_residual.ensures.1
    (cell_told g.V.Snapshot.given d kind root p c.cells.i cell fault w.of_tree is (c.in_err-is_ill.ensures.err right has.0 has.1))
