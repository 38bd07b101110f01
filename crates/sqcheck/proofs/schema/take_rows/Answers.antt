use Rattle.sqcheck.proofs.Between.{AreSchemaRows, Database, InRowBelow, IsCellAt, IsReached, IsSound, KeepsFound, StandsBy, StandsNow, TableLeaf, [], ap, arith, cell_count, exits, keep_nothing, length, memory_now, page_as, row_more, row_stands, rules, subst, sym, ℕ, ⊎_elim, ◌++◌, ◌<◌, ◌∙◌, ◌∷◌, ◌≡◌, ◌≤◌}
use Rattle.sqpage.specs.declared.fault.Fault.TheVariants as faults
use Rattle.sqcheck.proofs.schema.take_rows.Goals as goal

pub rows-init : goal.rows-init
rows-init g c = record {
  finds = λ right e. (keep_nothing g.V.Snapshot.pages (InRowBelow g.V.Snapshot.pages c.args.page.now.number 0) c.args.roots.now.items (λ t h. let lt : h.0 < 0 = h.3 in omega arith), λ i x lt row. absurd (omega (arith, lt)));
  same = c.requires.same;
}

pub row_root-requires-clause-cell : goal.row_root-requires-clause-cell
row_root-requires-clause-cell g c = record {
  payload = search rules;
  least = c.cell-cell.ensures.least;
  most = (let u = c.cell-cell.ensures.cell.usable in omega (arith, u, c.requires.most));
  part = c.cell-cell.ensures.part;
}

pub returns-in_err-root-clause-err : goal.returns-in_err-root-clause-err
returns-in_err-root-clause-err g c = λ right e w.
    let d = g.V.Snapshot.pages in
    let p : ℕ = c.args.page.now.number in
    let lt : c.rows.i < cell_count c.args.page.now = omega (arith, c.len-i-end.ensures, c.rows-test.true) in
    let is : IsCellAt (page_as d TableLeaf p) c.rows.i c.cell-cell.result = subst (λ b. IsCellAt b c.rows.i c.cell-cell.result) e (lt, c.cell-cell.ensures.cell) in
    let fault = c.in_err-root.field-0.0 in
    let has = w.payloads c.rows.i c.cell-cell.result is in
    exits (λ e. StandsNow g.V.Snapshot.given d e.fault e.page) fault c.from_residual.result c.from_residual.ensures.1 (
      c.in_err-root.ensures.source,
      λ read maps size same asked. ⊎_elim (λ none. subst (λ f. StandsBy (IsReached d) (IsSound d) maps d size f fault.page) (sym none) tt)
          (λ h. subst (λ f. StandsBy (IsReached d) (IsSound d) maps d size f fault.page) (sym h.0) (subst (StandsBy (IsReached d) (IsSound d) maps d size faults.SchemaRecord) (sym (h.1 ∙ c.cell-cell.ensures.cell.page)) (row_stands d maps size p c.rows.i h.2 c.cell-cell.result w is h.3 h.4)))
          (c.in_err-root.ensures.err right has.0 has.1 read),
    )

pub rows-preserved : goal.rows-preserved
rows-preserved g c =
    let d = g.V.Snapshot.pages in
    let p : ℕ = c.args.page.now.number in
    let count = c.count-count.ensures ∙ ap (λ (q : Database). length q) c.requires.same.same_pages in
    record {
      finds = λ right e.
          let lt : c.rows.i < cell_count c.args.page.now = omega (arith, c.len-i-end.ensures, c.rows-test.true) in
          let is : IsCellAt (page_as d TableLeaf p) c.rows.i c.cell-cell.result = subst (λ b. IsCellAt b c.rows.i c.cell-cell.result) e (lt, c.cell-cell.ensures.cell) in
          let h = c.in_ok-root.ensures.ok right in
          let f = c.rows.invariant.finds right e in
          let found = c.in_ok-add_root.ensures in
          row_more d p c.rows.i c.in_ok-root.root h.0 c.cell-cell.result c.args.roots.now.items c.rows.roots.items c.add_root.new.roots.items is h.1 h.2 h.3 found.zero
          (λ more. found.full (subst (λ n. n < length c.rows.roots.items) (sym count) more))
          (λ some few. subst (λ n. c.add_root.new.roots.items ≡ c.rows.roots.items ++ record { holder = n; page = c.in_ok-root.root } ∷ []) c.cell-cell.ensures.cell.page (found.found some (subst (λ n. length c.rows.roots.items ≤ n) (sym count) few))) f.0 f.1;
      same = c.row_root.ensures.same;
    }

pub returns-clause-ok : goal.returns-clause-ok
returns-clause-ok g c = λ right e.
    let d = g.V.Snapshot.pages in
    let p : ℕ = c.args.page.now.number in
    let all : c.rows.i ≡ cell_count c.args.page.now = omega (arith, c.len-i-end.ensures, c.rows-test.false, c.rows.auto.i-end) in
    subst (λ n. KeepsFound d (InRowBelow d p n) c.args.roots.now.items c.rows.roots.items × AreSchemaRows d p n) all (c.rows.invariant.finds right e)

pub returns-in_err-add_root-clause-err : goal.returns-in_err-add_root-clause-err
returns-in_err-add_root-clause-err g c = λ right e w.
    let d = g.V.Snapshot.pages in
    let fault = c.in_err-add_root.field-0.0 in
    exits (λ e. StandsNow g.V.Snapshot.given d e.fault e.page) fault c.from_residual-in_err-add_root.result c.from_residual-in_err-add_root.ensures.1
    (memory_now g.V.Snapshot.given d fault.fault fault.page c.in_err-add_root.ensures.err)
