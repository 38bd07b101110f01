use Rattle.sqcheck.proofs.Between.{AllSchemaRows, Every, InRowsOf, IsRowsPage, KeepsFound, StandsNow, [], every_append, every_index, exits, get_or, not_before, page_more, refl, subst, sym, take, take_more, ℕ, ◌++◌, ◌+◌, ◌∙◌, ◌∷◌, ◌≡◌}
use Rattle.sqcheck.proofs.schema.roots_in.Goals as goal

pub returns-in_err-page_roots-clause-err : goal.returns-in_err-page_roots-clause-err
returns-in_err-page_roots-clause-err g c = λ right all.
    let d = g.V.Snapshot.pages in
    let rows = c.args.rows.now in
    let n : ℕ = get_or rows c.pages.number-index 0 in
    let w : IsRowsPage d n = every_index (IsRowsPage d) rows c.pages.number-index n c.pages-test.true refl all in
    exits (λ e. StandsNow g.V.Snapshot.given d e.fault e.page) c.in_err-page_roots.field-0.0 c.from_residual.result c.from_residual.ensures.1 (c.in_err-page_roots.ensures.err right w)

pub pages-preserved : goal.pages-preserved
pages-preserved g c =
    let d = g.V.Snapshot.pages in
    let i = c.pages.invariant in
    let rows = c.args.rows.now in
    let n : ℕ = get_or rows c.pages.number-index 0 in
    let more : take (c.pages.number-index + 1) rows ≡ take c.pages.number-index rows ++ n ∷ [] = take_more rows c.pages.number-index 0 c.pages-test.true in
    record {
      finds = λ right all apart.
          let w : IsRowsPage d n = every_index (IsRowsPage d) rows c.pages.number-index n c.pages-test.true refl all in
          let h = c.in_ok-page_roots.ensures.ok right w in
          let f = i.finds right all apart in
          subst (λ l. KeepsFound d (InRowsOf d l) [] c.page_roots.new.roots.items × Every (AllSchemaRows d) l) (sym more) (
            page_more d (take c.pages.number-index rows) n [] c.pages.roots.items c.page_roots.new.roots.items (not_before rows c.pages.number-index n c.pages-test.true refl apart) f.0 h.0,
            every_append (AllSchemaRows d) (take c.pages.number-index rows) (n ∷ []) f.1 (h.1, tt),
          );
      usable = c.page_roots.ensures.usable ∙ i.usable;
      same = c.page_roots.ensures.same;
    }
