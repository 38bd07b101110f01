use Rattle.sqcheck.proofs.Below.{Mapped, [], on_ok, subst, sym, true}
use Rattle.sqcheck.proofs.walker.Walker.survey_all.Goals as goal

pub returns-clause-found : goal.returns-clause-found
returns-clause-found g c = λ right e said largest begins.
    let maps = g.V.Snapshot.maps in
    let d = g.V.Snapshot.pages in
    let size = g.V.Snapshot.size in
    let first = c.args.chart.now in
    let bars = c.args.self.now.uses.marks.items in
    let all = c.in_ok-survey_others.ensures.found right first bars (c.in_ok-survey_first.ensures.found right e said begins) in
    let w = c.survey_others.new.self in
    let old = c.survey_others.new.chart in
    let new = c.survey_largest_root.new.chart in
    on_ok _ _ c.survey_largest_root.result (λ t. record {
      visited = all.visited;
      told = old.faults.items;
      mapped = subst (λ l. Mapped maps d size first bars true true all.visited [] w.uses w.walk.rows.items l old.faults.items) (sym c.survey_largest_root.ensures.same) all.mapped;
      largest = t;
    })
    (c.survey_largest_root.ensures.tells right largest)
