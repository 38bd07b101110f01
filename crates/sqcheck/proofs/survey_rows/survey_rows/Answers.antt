use Rattle.sqcheck.proofs.Facts.{AddsRoots, HasKind, InRow, Page, TableLeaf, adds_nothing, ap, as_page, byte, code_of, head_at, kind_once, never_refused, on_ok, page_as, page_found, refl, subst, sym, tells_nothing, used_read, ◌∙◌, ◌≡◌}
use Rattle.sqcheck.proofs.survey_rows.survey_rows.Goals as goal

pub returns-in-TableLeaf-clause-found : goal.returns-in-TableLeaf-clause-found
returns-in-TableLeaf-clause-found g c = λ right leaf.
    let d = g.V.Snapshot.pages in
    let read = c.read.new.self in
    let b : Page = c.in-Ok.page in
    let is = c.in-Ok.ensures.ok in
    let used = used_read d c.args.number read.usable c.deref.result.now (c.deref.ensures.value ∙ c.in_ok-read.ensures.read right) (read.used right) in
    let kind : b.kind ≡ TableLeaf = sym c.kind.ensures ∙ c.in-TableLeaf.is in
    let here : b ≡ page_as d TableLeaf c.args.number = as_page d c.args.number _ b used is.used_are is.numbered ∙ ap (λ k. page_as d k c.args.number) kind in
    let same : b ≡ page_as d TableLeaf b.number = here ∙ ap (page_as d TableLeaf) (sym is.numbered) in
    on_ok _ _ c.survey_cells.result (λ adds. subst (λ p. AddsRoots d (InRow d p) c.args.rows.now.roots.items c.survey_cells.new.rows.roots.items) is.numbered adds)
    (c.survey_cells.ensures.found right (page_found d c.args.number b leaf is.numbered same is.btree))

pub returns-in-TableLeaf-clause-tells : goal.returns-in-TableLeaf-clause-tells
returns-in-TableLeaf-clause-tells g c = λ right leaf.
    let d = g.V.Snapshot.pages in
    let read = c.read.new.self in
    let b : Page = c.in-Ok.page in
    let is = c.in-Ok.ensures.ok in
    let used = used_read d c.args.number read.usable c.deref.result.now (c.deref.ensures.value ∙ c.in_ok-read.ensures.read right) (read.used right) in
    let kind : b.kind ≡ TableLeaf = sym c.kind.ensures ∙ c.in-TableLeaf.is in
    let here : b ≡ page_as d TableLeaf c.args.number = as_page d c.args.number _ b used is.used_are is.numbered ∙ ap (λ k. page_as d k c.args.number) kind in
    let same : b ≡ page_as d TableLeaf b.number = here ∙ ap (page_as d TableLeaf) (sym is.numbered) in
    c.survey_cells.ensures.tells right (page_found d c.args.number b leaf is.numbered same is.btree)

pub returns-in_default-kind : goal.returns-in_default-kind
returns-in_default-kind g c = record {
  ends = tt;
  roles = refl;
  found = λ right leaf.
      let d = g.V.Snapshot.pages in
      let read = c.read.new.self in
      let b : Page = c.in-Ok.page in
      let is = c.in-Ok.ensures.ok in
      let used = used_read d c.args.number read.usable c.deref.result.now (c.deref.ensures.value ∙ c.in_ok-read.ensures.read right) (read.used right) in
      let here : b ≡ page_as d b.kind c.args.number = as_page d c.args.number _ b used is.used_are is.numbered in
      adds_nothing d (InRow d c.args.number) c.args.rows.now.roots.items c.args.rows.now.roots.items refl (λ t h short.
      let kind : HasKind d b.kind c.args.number = subst (λ (q : Page). byte q.used (head_at c.args.number) ≡ code_of b.kind) here (subst (λ n. byte b.used (head_at n) ≡ code_of b.kind) is.numbered is.btree.kind) in
      let same : b.kind ≡ TableLeaf = kind_once d b.kind TableLeaf c.args.number kind h.0 in
      c.in_default-kind.not-TableLeaf (c.kind.ensures ∙ same));
  tells = λ right leaf. tells_nothing g.V.Snapshot.maps g.V.Snapshot.pages g.V.Snapshot.size c.args.chart.now.faults.items c.args.chart.now.faults.items refl;
  usable = c.read.ensures.usable;
  room = c.requires.room;
  same = c.read.ensures.same;
}

pub returns-in_default-clause-found : goal.returns-in_default-clause-found
returns-in_default-clause-found g c = λ right leaf.
    let d = g.V.Snapshot.pages in
    let read = c.read.new.self in
    let used = used_read d c.args.number read.usable c.deref.result.now (c.deref.ensures.value ∙ c.in_ok-read.ensures.read right) (read.used right) in
    absurd (never_refused d c.args.number _ c.new.result leaf used c.new.ensures.err c.in_default.not-Ok)
