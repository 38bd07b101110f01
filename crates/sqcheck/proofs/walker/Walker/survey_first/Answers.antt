use Rattle.sqcheck.proofs.Words.{Mapped, [], false, first_root_spot, refl, subst, sym, true, ◌∷◌}
use Rattle.sqcheck.proofs.visit.SurveyedPages.{free_counted}
use Rattle.sqcheck.proofs.walker.Walker.survey_first.Goals as goal

pub returns-clause-found : goal.returns-clause-found
returns-clause-found g c = λ right e said begins.
    let maps = g.V.Snapshot.maps in
    let d = g.V.Snapshot.pages in
    let size = g.V.Snapshot.size in
    let first = c.args.chart.now in
    let bars = c.args.self.now.uses.marks.items in
    let trunks = c.in_ok-survey_trunks.ensures.found right e begins in
    let uses = c.survey_trunks.new.self.uses in
    let rows = c.survey_trunks.new.self.walk.rows.items in
    let old = c.survey_trunks.new.chart in
    let new = c.survey_free_count.new.chart in
    let counted = free_counted maps d size first bars trunks.visited (first_root_spot ∷ []) uses rows old.roles.items old.faults.items new.faults.items c.args.start.now.free_pages said (refl, tt) c.in_ok-survey_free_count.ensures.tells trunks.mapped in
    let here = subst (λ l. Mapped maps d size first bars true false trunks.visited (first_root_spot ∷ []) uses rows l new.faults.items) (sym c.survey_free_count.ensures.same) counted in
    c.survey_from.ensures.found right first bars true false [] first_root_spot (record { page = refl; stands = refl; role = refl; proper = tt; kind = refl }) (record { visited = trunks.visited; mapped = here })
