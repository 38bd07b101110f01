use Rattle.sqcheck.proofs.Facts.{AreSchemaRows, FirstLeaf, InRowBelow, IsReached, IsSound, KeepsFound, NodeRefused, Page, TableLeaf, all_rows, ap, as_page, cell_count, node_stands, on_ok, page_as, page_refused, subst, sym, used_read, ◌∙◌, ◌≡◌}
use Rattle.sqcheck.proofs.schema.page_roots.Goals as goal

pub returns-in-Err-clause-err : goal.returns-in-Err-clause-err
returns-in-Err-clause-err g c = λ right w.
    let d = g.V.Snapshot.pages in
    let read = c.read.new.self in
    let refused =
    page_refused (FirstLeaf d w.x.tree 1) d c.args.number _ c.in-Err.fault w.x (used_read d c.args.number read.usable c.deref.result.now (c.deref.ensures.value ∙ c.in_ok-read.ensures.read right) (read.used right)) c.in-Err.ensures.err in (
      λ is. absurd (subst (λ f. NodeRefused d f c.args.number w.x) is refused),
      λ other maps size same asked. node_stands (IsReached d) (IsSound d) d maps size w.spot w.reached c.args.number w.x c.in-Err.fault w.names w.role w.page refused,
    )

pub returns-in-TableLeaf-clause-ok : goal.returns-in-TableLeaf-clause-ok
returns-in-TableLeaf-clause-ok g c = λ right w.
    let d = g.V.Snapshot.pages in
    let read = c.read.new.self in
    let b : Page = c.in-Ok.page in
    let used = used_read d c.args.number read.usable c.deref.result.now (c.deref.ensures.value ∙ c.in_ok-read.ensures.read right) (read.used right) in
    let kind : b.kind ≡ TableLeaf = sym c.kind.ensures ∙ c.in-TableLeaf.is in
    let leaf : b ≡ page_as d TableLeaf c.args.number = as_page d c.args.number _ b used c.in-Ok.ensures.ok.used_are c.in-Ok.ensures.ok.numbered ∙ ap (λ k. page_as d k c.args.number) kind in
    let same : b ≡ page_as d TableLeaf b.number = leaf ∙ ap (page_as d TableLeaf) (sym c.in-Ok.ensures.ok.numbered) in
    on_ok _ _ c.take_rows.result (λ both. all_rows d c.args.number (cell_count b) c.args.roots.now.items c.take_rows.new.roots.items w.page_is.kind (ap (λ (q : Page). cell_count q) leaf)
    (subst (λ n. KeepsFound d (InRowBelow d n (cell_count b)) c.args.roots.now.items c.take_rows.new.roots.items × AreSchemaRows d n (cell_count b)) c.in-Ok.ensures.ok.numbered both))
    (c.take_rows.ensures.ok right same)
