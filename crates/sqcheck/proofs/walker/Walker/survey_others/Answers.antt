use Rattle.sqcheck.proofs.Facts.{AddsRoots, Apart, Every, InRowsOf, IsLeafFound, Mapped, RootsMatch, [], false, mapped_told, subst, sym, true, ◌∙◌}
use Rattle.sqcheck.proofs.visit.SurveyedPages.{leaves_found, rooted}
use Rattle.sqcheck.proofs.walker.Walker.survey_others.Goals as goal

pub returns-clause-found : goal.returns-clause-found
returns-clause-found g c = λ right first bars was.
    let maps = g.V.Snapshot.maps in
    let d = g.V.Snapshot.pages in
    let size = g.V.Snapshot.size in
    let s = c.args.self.now in
    let rows = s.walk.rows.items in
    let old = c.args.chart.now in
    let mid = c.sound_roots.new.chart in
    let roots = c.in_ok-roots.roots.items in
    let leaves = subst (Every (IsLeafFound d)) (sym c.deref.ensures.value) (leaves_found maps d size first bars was.visited s.uses rows old.roles.items old.faults.items was.mapped) in
    let apart = subst Apart (sym c.deref.ensures.value) was.mapped.leaves.distinct in
    let adds = subst (λ l. AddsRoots d (InRowsOf d l) [] roots) c.deref.ensures.value (c.in_ok-roots.ensures.found right leaves apart) in
    let told = mapped_told maps d size first bars true false was.visited [] s.uses rows old.roles.items old.faults.items mid.faults.items (c.in_ok-roots.ensures.tells right leaves) was.mapped in
    let here = subst (λ l. Mapped maps d size first bars true false was.visited [] s.uses rows l mid.faults.items) (sym c.sound_roots.ensures.roles) told in
    let m = rooted maps d size first bars was.visited s.uses rows mid.roles.items mid.faults.items here roots adds in
    let match = subst (λ l. RootsMatch d l adds.spots) (sym adds.added ∙ sym c.deref-2.ensures.value) adds.match in
    c.survey_roots.ensures.found right first bars adds.spots match (record { visited = was.visited; mapped = m })
