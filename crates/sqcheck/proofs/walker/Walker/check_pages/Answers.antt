use Rattle.sqcheck.proofs.Facts.{AreEachOnce, IsAutoVacuum, IsSetAside, StandsAt, [], concludes, either, exits_as, length, mapped_of, once_of, reported, subst, sym, true, visits_more, visits_of, ⊎_elim, ◌++◌, ◌∙◌, ◌≡◌}
use Rattle.sqcheck.proofs.walker.Walker.check_pages.Goals as goal

pub returns-in_err-follow_others-clause-checks : goal.returns-in_err-follow_others-clause-checks
returns-in_err-follow_others-clause-checks g c = λ right maps sized lists new header.
    let w = c.in_ok-follow_first.ensures.walks right lists new in
    exits_as _ (StandsAt g.V.Snapshot) c.in_err-follow_others.field-0.0 c.from_residual-in_err-follow_others.result c.from_residual-in_err-follow_others.ensures.1
    (c.in_err-follow_others.ensures.walks right sized w.0 w.1)

pub returns-in_err-judge_end-clause-checks : goal.returns-in_err-judge_end-clause-checks
returns-in_err-judge_end-clause-checks g c = λ right maps sized lists new header.
    let w = c.in_ok-follow_first.ensures.walks right lists new in
    let z = c.in_ok-follow_others.ensures.walks right sized w.0 w.1 in
    exits_as _ (StandsAt g.V.Snapshot) c.in_err-judge_end.field-0.0 c.from_residual-in_err-judge_end.result c.from_residual-in_err-judge_end.ensures.1
    (c.in_err-judge_end.ensures.err right (w.0 ++ z.0) lists z.1)

pub returns-clause-checks : goal.returns-clause-checks
returns-clause-checks g c = λ right maps sized lists new header.
    let d = g.V.Snapshot.pages in
    let k = c.follow_others.new.self in
    let w = c.in_ok-follow_first.ensures.walks right lists new in
    let z = visits_more g.T.Visitor.saw d true [] [] w.0 k.uses k.walk c.args.visitor.now c.follow_first.new.visitor c.follow_others.new.visitor w.2 (c.in_ok-follow_others.ensures.walks right sized w.0 w.1) in
    let end = c.in_ok-judge_end.ensures.taken in
    let known = k.maps.known right.0 in
    let used : IsAutoVacuum d → k.maps.used ≡ true = λ auto. ⊎_elim (λ yes. yes) (λ no. absurd (auto (known.plain right.1 no))) (either k.maps.used) in
    let mapped = mapped_of d g.V.Snapshot.size k.uses.marks.items z.0 k.walk.rows.items k.uses.counts c.args.header.now.largest_root lists.largest sized z.1 (λ auto. c.in_ok-judge_end.ensures.largest (used auto)) in
    let x = concludes maps d g.V.Snapshot.size k.uses.marks.items z.0 k.walk.rows.items k.uses.counts c.requires.same.sized sized header z.1 end.0 (end.1 ∙ lists.said) mapped c.report.result
    (reported d z.0 k.uses.counts c.report.result z.1.counted (c.report.ensures.pages ∙ z.1.agenda.tour.sized) c.report.ensures.trees c.report.ensures.btree c.report.ensures.overflow c.report.ensures.free) in
    let v = visits_of g.T.Visitor.saw d z.0 c.args.visitor.now c.follow_others.new.visitor z.1.agenda.tour.reached z.2 in
    (x.0, x.1, v.visits, v.told, record { once = subst (AreEachOnce (IsSetAside d g.V.Snapshot.size) (length d)) (sym v.pages) (once_of d g.V.Snapshot.size k.uses.marks.items z.0 sized z.1.agenda end.0); roles = v.roles })

pub returns-in_err-follow_first-clause-checks : goal.returns-in_err-follow_first-clause-checks
returns-in_err-follow_first-clause-checks g c = λ right maps sized lists new header.
    exits_as _ (StandsAt g.V.Snapshot) c.in_err-follow_first.field-0.0 c.from_residual.result c.from_residual.ensures.1
    (c.in_err-follow_first.ensures.walks right lists new)
