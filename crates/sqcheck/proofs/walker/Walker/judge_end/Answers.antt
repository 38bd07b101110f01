use Rattle.sqcheck.proofs.Facts.{Fault, IsReached, IsSound, IsWithin, StandsBy, StandsNow, all_visited, exits, false, free_count_stands, if_err, is_marked, largest_stands, length, subst, sym, unused_stands, ◌∙◌, ◌≡◌}
use Rattle.sqpage.specs.declared.fault.Fault.TheVariants as faults
use Rattle.sqcheck.proofs.walker.Walker.judge_end.Goals as goal

pub returns-in_err-judge_unused-clause-err : goal.returns-in_err-judge_unused-clause-err
returns-in_err-judge_unused-clause-err g c = λ right visited lists w.
    let d = g.V.Snapshot.pages in
    let e = c.in_err-judge_unused.field-0.0 in
    let h = subst (λ l. (e.fault ≡ faults.PageUnused) × IsWithin (length l) e.page × (is_marked l e.page ≡ false)) c.deref.ensures.value c.in_err-judge_unused.ensures.err in
    exits (λ e. StandsNow g.V.Snapshot.given d e.fault e.page) e c.from_residual.result c.from_residual.ensures.1
    (λ is. absurd (let both : ◌≡◌ {A = Fault} faults.PageUnused faults.Source = sym h.0 ∙ is in cc), λ read maps size same asked. subst (λ f. StandsBy (IsReached d) (IsSound d) maps d size f e.page) (sym h.0) (unused_stands d maps size same c.args.self.now.uses.marks.items visited e.page w.agenda h.1 h.2))

pub returns-in_err-judge_free_count-clause-err : goal.returns-in_err-judge_free_count-clause-err
returns-in_err-judge_free_count-clause-err g c = λ right visited lists w.
    let d = g.V.Snapshot.pages in
    let uses = c.args.self.now.uses in
    let e = c.in_err-judge_free_count.field-0.0 in
    let h = c.in_err-judge_free_count.ensures.err in
    exits (λ e. StandsNow g.V.Snapshot.given d e.fault e.page) e c.from_residual-in_err-judge_free_count.result c.from_residual-in_err-judge_free_count.ensures.1 (
      λ is. absurd (let both : ◌≡◌ {A = Fault} faults.FreeCount faults.Source = sym h.0 ∙ is in cc),
      λ read maps size same asked. subst (λ f. StandsBy (IsReached d) (IsSound d) maps d size f e.page) (sym h.0) (subst (StandsBy (IsReached d) (IsSound d) maps d size faults.FreeCount) (sym h.1)
          (free_count_stands d maps size visited uses.counts c.args.header.now.free_pages lists.said w.counted w.agenda.tour.taken.distinct w.agenda.tour.reached w.agenda.sound (λ s r f. all_visited d uses.marks.items visited w.agenda r) h.2)),
    )

pub returns-clause-err : goal.returns-clause-err
returns-clause-err g c = λ right visited lists w.
    let d = g.V.Snapshot.pages in
    let s = c.args.self.now in
    if_err _ (λ e. StandsNow g.V.Snapshot.given d e.fault e.page) c.judge_largest_root.result
    (λ e h. (
      λ is. absurd (let both : ◌≡◌ {A = Fault} faults.PointerMap faults.Source = sym h.0 ∙ is in cc),
      λ read maps size same asked. subst (λ f. StandsBy (IsReached d) (IsSound d) maps d size f e.page) (sym h.0) (subst (StandsBy (IsReached d) (IsSound d) maps d size faults.PointerMap) (sym h.1)
          (largest_stands d maps size s.uses.marks.items visited s.uses.counts c.args.header.now.largest_root lists.largest ((s.maps.known right.0).auto h.2) w.agenda w.counted h.3 (asked ((s.maps.known right.0).auto h.2)))),
    ))
    c.judge_largest_root.ensures.err
