use Rattle.sqcheck.proofs.Facts.{AddsRoots, InRowAt, InRowBelow, Page, TableLeaf, arith, cell_count, cell_found, none_below, on_ok, page_adds, page_as, refl, rows_add, subst, sym, tells_both, tells_nothing, ℕ, ◌+◌, ◌<◌, ◌∙◌, ◌≡◌}
use Rattle.sqcheck.proofs.survey_rows.survey_cells.Goals as goal

pub rows-preserved : goal.rows-preserved
rows-preserved g c =
    let d = g.V.Snapshot.pages in
    let i = c.rows.invariant in
    let p : ℕ = c.args.page.now.number in
    let lt : c.rows.i < cell_count c.args.page.now = omega (arith, c.len-i-end.ensures, c.rows-test.true) in
    let at = c.cell-cell.ensures.cell.page in
    record {
      roles = c.survey_row.ensures.roles ∙ i.roles;
      found = λ right page.
          let adds = c.in_ok-survey_row.ensures.found right (cell_found d c.args.page.now c.rows.i c.cell-cell.result page (lt, c.cell-cell.ensures.cell)) in
          rows_add d p c.rows.i c.args.rows.now.roots.items c.rows.rows.roots.items c.survey_row.new.rows.roots.items (i.found right page)
          (subst (λ q. AddsRoots d (InRowAt d q c.rows.i) c.rows.rows.roots.items c.survey_row.new.rows.roots.items) at adds);
      tells = λ right page. tells_both g.V.Snapshot.maps g.V.Snapshot.pages g.V.Snapshot.size c.args.chart.now.faults.items c.rows.chart.faults.items c.survey_row.new.chart.faults.items (i.tells right page)
          (c.in_ok-survey_row.ensures.tells right (cell_found g.V.Snapshot.pages c.args.page.now c.rows.i c.cell-cell.result page (lt, c.cell-cell.ensures.cell)));
      room = c.survey_row.ensures.room;
      same = c.survey_row.ensures.same;
    }

pub rows-init : goal.rows-init
rows-init g c = record {
  roles = refl;
  found = λ right page. none_below g.V.Snapshot.pages c.args.page.now.number c.args.rows.now.roots.items;
  tells = λ right page. tells_nothing g.V.Snapshot.maps g.V.Snapshot.pages g.V.Snapshot.size c.args.chart.now.faults.items c.args.chart.now.faults.items refl;
  room = c.requires.room;
  same = c.requires.same;
}

pub returns-clause-found : goal.returns-clause-found
returns-clause-found g c = λ right page.
    let d = g.V.Snapshot.pages in
    let p : ℕ = c.args.page.now.number in
    let same : c.args.page.now ≡ page_as d TableLeaf p = page.2 in
    let all : c.rows.i ≡ cell_count c.args.page.now = omega (arith, c.len-i-end.ensures, c.rows-test.false, c.rows.auto.i-end) in
    page_adds d p c.rows.i c.args.rows.now.roots.items c.rows.rows.roots.items page.1 (subst (λ b. c.rows.i ≡ cell_count b) same all) (c.rows.invariant.found right page)
