use Rattle.sqcheck.proofs.Words.{[], false, first_root_spot, first_trunk_spot, refl, sym, ◌∙◌, ◌∷◌}
use Rattle.sqcheck.proofs.visit.SurveyedPages.{begun_trunk, begun_root}
use Rattle.sqcheck.proofs.walker.Walker.survey_trunks.Goals as goal

pub returns-then-first-eq0-clause-found : goal.returns-then-first-eq0-clause-found
returns-then-first-eq0-clause-found g c = λ right e begins. record {
  visited = [];
  mapped = begun_root g.V.Snapshot.maps g.V.Snapshot.pages g.V.Snapshot.size c.args.chart.now c.args.self.now.uses c.args.self.now.walk begins (sym e ∙ c.if-first-eq0.true);
}

pub returns-clause-found : goal.returns-clause-found
returns-clause-found g c = λ right e begins.
    let d = g.V.Snapshot.pages in
    c.survey_from.ensures.found right c.args.chart.now c.args.self.now.uses.marks.items false false (first_root_spot ∷ []) (first_trunk_spot d) (record { page = e; stands = refl; role = refl; proper = tt; kind = refl })
    (record { visited = []; mapped = begun_trunk g.V.Snapshot.maps d g.V.Snapshot.size c.args.chart.now c.args.self.now.uses c.args.self.now.walk begins (λ z. c.if-first-eq0.false (e ∙ z)) })
