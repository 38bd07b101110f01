use Rattle.sqcheck.proofs.Facts.{Fault, IsReached, IsSound, StandsBy, StandsAt, [], exits_as, false, free_count_stands, free_visited, on_match, subst, sym, visits_more, ◌∙◌, ◌≡◌}
use Rattle.sqpage.specs.declared.fault.Fault.TheVariants as faults
use Rattle.sqcheck.proofs.walker.Walker.follow_first.Goals as goal

pub returns-in_err-judge_free_count-clause-walks : goal.returns-in_err-judge_free_count-clause-walks
returns-in_err-judge_free_count-clause-walks g c = λ right lists new.
    let d = g.V.Snapshot.pages in
    let e = c.in_err-judge_free_count.field-0.0 in
    let k = c.follow_trunks.new.self in
    let w = c.in_ok-follow_trunks.ensures.walks right lists.first new in
    let h = c.in_err-judge_free_count.ensures.err in
    exits_as _ (StandsAt g.V.Snapshot) e c.from_residual-in_err-judge_free_count.result c.from_residual-in_err-judge_free_count.ensures.1 (
      λ is. absurd (let both : ◌≡◌ {A = Fault} faults.FreeCount faults.Source = sym h.0 ∙ is in cc),
      λ read maps size same asked. subst (λ f. StandsBy (IsReached d) (IsSound d) maps d size f e.page) (sym h.0) (subst (StandsBy (IsReached d) (IsSound d) maps d size faults.FreeCount) (sym h.1)
          (free_count_stands d maps size w.0 k.uses.counts c.args.header.now.free_pages lists.said w.1.counted w.1.agenda.tour.taken.distinct w.1.agenda.tour.reached w.1.agenda.sound (λ s r f. free_visited d k.uses.marks.items w.0 w.1.agenda r f) h.2)),
    )

pub returns-clause-walks : goal.returns-clause-walks
returns-clause-walks g c = λ right lists new.
    let k = c.follow_schema.new.self in
    let w = c.in_ok-follow_trunks.ensures.walks right lists.first new in
    on_match _ _ _ c.follow_schema.result (visits_more g.T.Visitor.saw g.V.Snapshot.pages false [] [] w.0 k.uses k.walk c.args.visitor.now c.follow_trunks.new.visitor c.follow_schema.new.visitor w.2) (c.follow_schema.ensures.walks right w.0 w.1)

pub returns-in_err-follow_trunks-clause-walks : goal.returns-in_err-follow_trunks-clause-walks
returns-in_err-follow_trunks-clause-walks g c = λ right lists new.
    exits_as _ (StandsAt g.V.Snapshot) c.in_err-follow_trunks.field-0.0 c.from_residual.result c.from_residual.ensures.1
    (c.in_err-follow_trunks.ensures.walks right lists.first new)
