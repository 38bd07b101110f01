use Rattle.sqcheck.proofs.Between.{AreAllRoles, AreFoundFaults, AreFoundRoles, CheckError, Database, Err, Fault, FindsDamagedWith, IfErr, IsAutoVacuum, IsEnd, IsPage, IsReport, KnowsReserved, Report, Result, StandsWith, Survey, SurveyRefusedWith, UnlessUnread, WellFormedWith, [], all_roles, ap, cases_Bool, if_both, if_err, if_ok, inl, inr, length, page, subst, sym, told_long, usable_size, word, ℕ, ⊎_elim, ◌<◌, ◌∙◌, ◌≡◌, ◌≢◌}
use Rattle.sqpage.specs.declared.fault.Fault.TheVariants as faults
use Rattle.sqcheck.proofs.survey.survey_pages_with.Goals as goal

pub returns-in-Ok-clause-clean : goal.returns-in-Ok-clause-clean
returns-in-Ok-clause-clean g c = λ right.
    let pages = g.S.PageSource.pages in
    let size = g.S.PageSource.size in
    let maps = c.args.options.pointer_maps in
    let read = c.reserved_by_maps.new.source in
    let keeps = c.in_ok-reserved.ensures.keeps in
    let v = c.in-Ok.ensures.ok (keeps.still_right right) in
    let known : KnowsReserved (pages c.args.source.now) (size c.args.source.now) c.in_ok-reserved.reserved =
    ⊎_elim (λ asked. c.in_ok-reserved.ensures.known right asked)
    (λ plain one auto. absurd (auto (ap (λ (d : Database). word (page d 1) 52) (sym keeps.same_pages) ∙ v.0.header.plain plain))) (cases_Bool maps) in
    let here : KnowsReserved (pages read) (size read) c.in_ok-reserved.reserved =
    subst (λ (d : Database). KnowsReserved d (size read) c.in_ok-reserved.reserved) (sym keeps.same_pages)
    (subst (λ n. KnowsReserved (pages c.args.source.now) n c.in_ok-reserved.reserved) (sym keeps.same_size) known) in
    let roles = all_roles (pages read) (size read) c.in_ok-reserved.reserved v.2 c.in_ok-chart.chart c.visit_pages_with.new.visitor here c.in_ok-chart.ensures.set v.3 v.4 in
    let there : (w : WellFormedWith maps (pages read) (size read)) × IsReport (pages read) w.places c.in-Ok.report × AreAllRoles (pages read) (size read) c.visit_pages_with.new.visitor.roles.items × (c.new.result.items ≡ []) =
    (v.0, v.1, roles, c.new.ensures.items) in
    subst (λ n. (w : WellFormedWith maps (pages c.args.source.now) n) × IsReport (pages c.args.source.now) w.places c.in-Ok.report × AreAllRoles (pages c.args.source.now) n c.visit_pages_with.new.visitor.roles.items × (c.new.result.items ≡ [])) keeps.same_size
    (subst (λ (d : Database). (w : WellFormedWith maps d (size read)) × IsReport d w.places c.in-Ok.report × AreAllRoles d (size read) c.visit_pages_with.new.visitor.roles.items × (c.new.result.items ≡ [])) keeps.same_pages there)

pub returns-in-Ok-clause-each : goal.returns-in-Ok-clause-each
returns-in-Ok-clause-each g c = λ right.
    let keeps = c.in_ok-reserved.ensures.keeps in
    let v = c.in-Ok.ensures.ok (keeps.still_right right) in
    told_long v.2 c.in_ok-chart.chart c.visit_pages_with.new.visitor v.3 ∙ c.in_ok-chart.ensures.set.long ∙ ap (λ (d : Database). length d) keeps.same_pages

pub returns-in-Err-clause-damaged : goal.returns-in-Err-clause-damaged
returns-in-Err-clause-damaged g c = λ right.
    let pages = g.S.PageSource.pages in
    let size = g.S.PageSource.size in
    let maps = c.args.options.pointer_maps in
    let d = pages c.args.source.now in
    let n = size c.args.source.now in
    let read = c.reserved_by_maps.new.source in
    let keeps = c.in_ok-reserved.ensures.keeps in
    let walked = c.visit_pages_with.new.source in
    let still = c.in-Err.ensures.keeps in
    let first = c.in-Err.first in
    if_ok (λ (s : Survey). ((s.answer ≡ Err first) × ¬ IsEnd first.fault) × (AreFoundRoles (pages walked) (size walked) s.roles.items × AreFoundFaults maps (pages walked) (size walked) s.roles.items s.faults.items)) (FindsDamagedWith maps d n) c.survey_behind.result
    (λ s both.
    let h = both.0 in
    let was_read : first.fault ≢ faults.Source = λ e. h.1 (inl e) in
    let memory : first.fault ≢ faults.NoMemory = λ e. h.1 (inr e) in
    let stands = (c.in-Err.ensures.err (keeps.still_right right)).1 was_read in
    let none = c.in-Err.ensures.none (keeps.still_right right) was_read memory in
    subst (λ (r : Result Report CheckError). IfErr r (λ e. StandsWith maps d n e.fault e.page × (¬ WellFormedWith maps d n) × (e.fault ≢ faults.NoMemory) × AreFoundRoles d n s.roles.items × AreFoundFaults maps d n s.roles.items s.faults.items)) (sym h.0) (
      subst (λ k. StandsWith maps d k first.fault first.page) keeps.same_size (subst (λ (q : Database). StandsWith maps q (size read) first.fault first.page) keeps.same_pages stands),
      subst (λ k. ¬ WellFormedWith maps d k) keeps.same_size (subst (λ (q : Database). ¬ WellFormedWith maps q (size read)) keeps.same_pages none),
      memory,
      subst (λ k. AreFoundRoles d k s.roles.items) (still.same_size ∙ keeps.same_size) (subst (λ (q : Database). AreFoundRoles q (size walked) s.roles.items) (still.same_pages ∙ keeps.same_pages) both.1.0),
      subst (λ k. AreFoundFaults maps d k s.roles.items s.faults.items) (still.same_size ∙ keeps.same_size) (subst (λ (q : Database). AreFoundFaults maps q (size walked) s.roles.items s.faults.items) (still.same_pages ∙ keeps.same_pages) both.1.1),
    ))
    (if_both (λ (s : Survey). (s.answer ≡ Err first) × ¬ IsEnd first.fault) (λ (s : Survey). AreFoundRoles (pages walked) (size walked) s.roles.items × AreFoundFaults maps (pages walked) (size walked) s.roles.items s.faults.items) c.survey_behind.result c.survey_behind.ensures.answer
    (if_both (λ (s : Survey). AreFoundRoles (pages walked) (size walked) s.roles.items) (λ (s : Survey). AreFoundFaults maps (pages walked) (size walked) s.roles.items s.faults.items) c.survey_behind.result (c.survey_behind.ensures.roles (still.still_right (keeps.still_right right))) (c.survey_behind.ensures.faults (still.still_right (keeps.still_right right)))))

pub returns-in-Err-clause-refused : goal.returns-in-Err-clause-refused
returns-in-Err-clause-refused g c = λ right.
    let pages = g.S.PageSource.pages in
    let size = g.S.PageSource.size in
    let maps = c.args.options.pointer_maps in
    let d = pages c.args.source.now in
    let n = size c.args.source.now in
    let read = c.reserved_by_maps.new.source in
    let walked = c.visit_pages_with.new.source in
    let keeps = c.in_ok-reserved.ensures.keeps in
    let still = c.in-Err.ensures.keeps in
    let first = c.in-Err.first in
    let told = c.in-Err.ensures.err (keeps.still_right right) in
    if_err _ (λ e. UnlessUnread (g.S.PageSource.gives_pages c.args.source.now) e.fault (SurveyRefusedWith maps d n e.fault e.page)) c.survey_behind.result
    (λ e h. elim h [
      | inl memory ↦ (λ is. absurd (let both : ◌≡◌ {A = Fault} faults.NoMemory faults.Source = sym memory ∙ is in cc), λ was_read. inl memory)
      | inr more ↦ elim more [
        | inl unread ↦ (λ is gives. unread.1 (still.still_gives (keeps.still_gives gives)), λ was_read. absurd (was_read unread.0))
        | inr same ↦ subst (λ (x : CheckError). UnlessUnread (g.S.PageSource.gives_pages c.args.source.now) x.fault (SurveyRefusedWith maps d n x.fault x.page)) (sym same.0) (
          λ is gives. told.0 is (keeps.still_gives gives),
          λ was_read.
              let stands = subst (λ k. StandsWith maps d k first.fault first.page) keeps.same_size (subst (λ (q : Database). StandsWith maps q (size read) first.fault first.page) keeps.same_pages (told.1 was_read)) in
              inr (
                stands,
                elim same.1 [
                  | inl magic ↦ inl magic
                  | inr other ↦ elim other [
                    | inl is ↦ absurd (was_read is)
                    | inr few ↦ inr (subst (λ (q : Database). usable_size q < 480) (still.same_pages ∙ keeps.same_pages) few)
                  ]
                ],
              ),
        )
      ]
    ])
    (c.survey_behind.ensures.err (still.still_right (keeps.still_right right)))
