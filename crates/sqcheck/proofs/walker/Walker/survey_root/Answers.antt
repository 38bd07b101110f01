use Rattle.sqcheck.proofs.Facts.{CheckError, Database, IsFaultOf, IsPage, Mapped, PageOutside, [], ap, arith, inl, inr, length, mapped_left, mapped_told, names_down, on_ok, refl, root_item, root_outside, subst, sym, tells_one, true, ◌<◌, ◌∙◌, ◌∷◌, ◌≡◌, ◌≤◌}
use Rattle.sqcheck.proofs.walker.Walker.survey_root.Goals.{then-root-eq0-via-then-root-eq0, then-root-eq0-via-else-root-eq0+then-root-from}
use Rattle.sqcheck.proofs.walker.Walker.survey_root.Goals as goal

pub returns-then-root-eq0-clause-found : goal.returns-then-root-eq0-clause-found
returns-then-root-eq0-clause-found g c = λ right first bars rest s is was.
    let maps = g.V.Snapshot.maps in
    let d = g.V.Snapshot.pages in
    let size = g.V.Snapshot.size in
    let uses = c.args.self.now.uses in
    let rows = c.args.self.now.walk.rows.items in
    let old = c.args.chart.now in
    let new = c.tell.new.self in
    let e : CheckError = record { page = c.args.root.holder; fault = PageOutside } in
    let none : ¬ IsPage d c.args.root.page = λ page. elim c.then-root-eq0.branch [
      | then-root-eq0-via-then-root-eq0 w ↦ (let above : 0 < c.args.root.page = page.0 in absurd (omega (arith, w.if-root-eq0.true)))
      | then-root-eq0-via-else-root-eq0+then-root-from w ↦ (
          let same = ap (λ (q : Database). length q) c.requires.same.same_pages in
          let below : c.args.root.page ≤ length d = page.1 in
          absurd (omega (arith, w.if-root-from.true, w.from.ensures, w.count.ensures, same)))
    ] in
    let outside : ¬ IsPage d s.page = λ page. none (subst (IsPage d) (sym is.page) page) in
    on_ok _ _ c.tell.result
    (λ down.
    let tells = tells_one maps d size e old.faults.items new.faults.items down (root_outside maps d size c.args.root (s, was.mapped.tour.waiting.0, is) none) in
    let told = mapped_told maps d size first bars true true was.visited (s ∷ rest) uses rows old.roles.items old.faults.items new.faults.items tells was.mapped in
    let left = mapped_left maps d size first bars true true was.visited s rest uses rows old.roles.items new.faults.items told
    (names_down (IsFaultOf d s) e old.faults.items new.faults.items down (inr (inr (is.stands, outside, inl refl)))) in
    record { visited = was.visited; mapped = subst (λ l. Mapped maps d size first bars true true was.visited rest uses rows l new.faults.items) (sym c.tell.ensures.same) left })
    c.tell.ensures.down

pub returns-clause-found : goal.returns-clause-found
returns-clause-found g c = λ right first bars rest s is was.
    c.survey_from.ensures.found right first bars true true rest s (root_item g.V.Snapshot.pages c.args.root s c.in_ok-table.table is (c.in_ok-table.ensures.ok right)) was
